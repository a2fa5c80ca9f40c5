use Rattle.mapdb_cluster.proofs.Moves.Running.{copies_agree}
use Rattle.mapdb_cluster.proofs.laws.copies_agree.Goals as goal

pub returns : goal.returns
returns c = copies_agree
