use Rattle.mapdb_cluster.proofs.Moves.Running.{join_is_least}
use Rattle.mapdb_cluster.proofs.laws.join_is_least.Goals as goal

pub returns : goal.returns
returns c = join_is_least
