use Rattle.mapdb_cluster.proofs.Moves.Unmaps.{unmaps_reach}
use Rattle.mapdb_cluster.proofs.laws.unmaps_reach.Goals as goal

pub returns : goal.returns
returns c = unmaps_reach
