use Rattle.std.proofs.Common.{rules}
use Rattle.mapdb_program.proofs.messages.fault_message.Goals as goal

pub returns-in-Write : goal.returns-in-Write
returns-in-Write c = search rules
