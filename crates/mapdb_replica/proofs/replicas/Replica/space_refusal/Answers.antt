use Rattle.std.proofs.Common.{rules}
use Rattle.mapdb_replica.proofs.replicas.Replica.space_refusal.Goals as goal

pub returns-then-ended-2 : goal.returns-then-ended-2
returns-then-ended-2 c = search rules

pub returns-then-is_root_number : goal.returns-then-is_root_number
returns-then-is_root_number c = search rules
