use Rattle.std.proofs.Common.{rules}
use Rattle.mapdb_replica.proofs.replicas.Replica.count_refusal.Goals as goal

pub returns-then-is_full : goal.returns-then-is_full
returns-then-is_full c = search rules

pub returns-else-is_full : goal.returns-else-is_full
returns-else-is_full c = search rules
