use Rattle.mapdb_cluster.proofs.Moves.Running.{no_escalation}
use Rattle.mapdb_cluster.proofs.laws.no_escalation.Goals as goal

pub returns : goal.returns
returns c = no_escalation
