use Rattle.std.proofs.Common.{rules}
use Rattle.mapdb_program.proofs.messages.node_message.Goals as goal

pub returns-in-JournalFull : goal.returns-in-JournalFull
returns-in-JournalFull c = search rules
