use Rattle.mapdb_cluster.proofs.Moves.HonestRuns.{honest_runs}
use Rattle.mapdb_cluster.proofs.laws.honest_runs.Goals as goal

pub returns : goal.returns
returns c = honest_runs
