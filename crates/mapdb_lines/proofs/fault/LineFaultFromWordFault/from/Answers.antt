use Rattle.std.proofs.Common.{rules}
use Rattle.mapdb_lines.proofs.fault.LineFaultFromWordFault.from.Goals as goal

pub returns-in-ReservedBit : goal.returns-in-ReservedBit
returns-in-ReservedBit c = search rules
