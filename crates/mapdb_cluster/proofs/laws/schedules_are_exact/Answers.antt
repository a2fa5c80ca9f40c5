use Rattle.mapdb_cluster.proofs.Moves.Running.{schedules_are_exact}
use Rattle.mapdb_cluster.proofs.laws.schedules_are_exact.Goals as goal

pub returns : goal.returns
returns c = schedules_are_exact
