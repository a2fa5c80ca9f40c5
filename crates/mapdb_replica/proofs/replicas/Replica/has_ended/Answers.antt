use Rattle.std.proofs.Common.{rules}
use Rattle.mapdb_replica.proofs.replicas.Replica.has_ended.Goals as goal

pub returns-clause-ended : goal.returns-clause-ended
returns-clause-ended c = search rules
