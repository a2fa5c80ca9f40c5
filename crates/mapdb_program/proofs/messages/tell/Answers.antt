use Rattle.std.proofs.Common.{rules}
use Rattle.mapdb_program.proofs.messages.tell.Goals as goal

pub returns : goal.returns
returns c = search rules
