use Rattle.std.proofs.Common.{rules}
use Rattle.mapdb_cluster.proofs.events.Reply.ran_out_of_memory.Goals as goal

pub returns-in-Refused-Memory : goal.returns-in-Refused-Memory
returns-in-Refused-Memory c = search rules
