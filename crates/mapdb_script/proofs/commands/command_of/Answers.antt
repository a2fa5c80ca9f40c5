use Rattle.std.proofs.Common.{rules}
use Rattle.mapdb_script.proofs.commands.command_of.Goals as goal

pub returns-in-Unmap : goal.returns-in-Unmap
returns-in-Unmap c = search rules
