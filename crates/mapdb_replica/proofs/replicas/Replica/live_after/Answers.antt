use Rattle.std.proofs.Common.{rules}
use Rattle.mapdb_replica.proofs.replicas.Replica.live_after.Goals as goal

pub returns-clause-live : goal.returns-clause-live
returns-clause-live c = search rules
