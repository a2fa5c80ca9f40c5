use Rattle.std.proofs.Common.{rules}
use Rattle.mapdb_lines.proofs.fault.LineFault.name.Goals as goal

pub returns-in-TooSmall : goal.returns-in-TooSmall
returns-in-TooSmall c = search rules
