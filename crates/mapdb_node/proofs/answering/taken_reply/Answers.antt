use Rattle.std.proofs.Common.{rules}
use Rattle.mapdb_node.proofs.answering.taken_reply.Goals as goal

pub returns-in-Ok : goal.returns-in-Ok
returns-in-Ok c = search rules
