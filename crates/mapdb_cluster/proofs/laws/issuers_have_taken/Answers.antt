use Rattle.mapdb_cluster.proofs.Moves.Unmaps.{issuers_have_taken}
use Rattle.mapdb_cluster.proofs.laws.issuers_have_taken.Goals as goal

pub returns : goal.returns
returns c = issuers_have_taken
