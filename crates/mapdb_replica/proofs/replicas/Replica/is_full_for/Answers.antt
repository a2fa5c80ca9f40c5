use Rattle.std.proofs.Common.{rules}
use Rattle.mapdb_replica.proofs.replicas.Replica.is_full_for.Goals as goal

pub returns-clause-full : goal.returns-clause-full
returns-clause-full c = search rules
