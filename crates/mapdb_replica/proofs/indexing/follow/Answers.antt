use Rattle.std.proofs.Common.{rules}
use Rattle.mapdb_replica.proofs.indexing.follow.Goals as goal

pub returns-then-is_absent : goal.returns-then-is_absent
returns-then-is_absent c = search rules
