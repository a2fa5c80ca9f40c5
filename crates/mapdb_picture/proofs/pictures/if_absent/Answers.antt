use Rattle.std.proofs.Common.{rules}
use Rattle.mapdb_picture.proofs.pictures.if_absent.Goals as goal

pub returns-then-is_known : goal.returns-then-is_known
returns-then-is_known c = search rules
