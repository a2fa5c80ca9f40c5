use Rattle.std.proofs.Common.{rules}
use Rattle.mapdb_program.proofs.endings.Ending.status.Goals as goal

pub returns-in-OutOfMemory : goal.returns-in-OutOfMemory
returns-in-OutOfMemory c = search rules
