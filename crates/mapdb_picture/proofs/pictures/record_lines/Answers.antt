use Rattle.std.proofs.Common.{rules}
use Rattle.mapdb_picture.proofs.pictures.record_lines.Goals as goal

pub returns : goal.returns
returns c = search rules
