use Rattle.std.proofs.Common.{rules}
use Rattle.mapdb_program.proofs.commands.page_said.Goals as goal

pub returns : goal.returns
returns c = search rules
