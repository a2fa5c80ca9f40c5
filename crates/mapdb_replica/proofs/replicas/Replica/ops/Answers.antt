use Rattle.std.proofs.Common.{rules}
use Rattle.mapdb_replica.proofs.replicas.Replica.ops.Goals as goal

pub returns : goal.returns
returns c = search rules
