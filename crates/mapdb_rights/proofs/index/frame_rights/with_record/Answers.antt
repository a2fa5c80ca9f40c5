use Rattle.std.proofs.Common.{rules}
use Rattle.mapdb_rights.proofs.index.frame_rights.with_record.Goals as goal

pub returns-then-change-shift : goal.returns-then-change-shift
returns-then-change-shift c = search rules
