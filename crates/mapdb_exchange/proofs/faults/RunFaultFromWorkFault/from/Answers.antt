use Rattle.std.proofs.Common.{rules}
use Rattle.mapdb_exchange.proofs.faults.RunFaultFromWorkFault.from.Goals as goal

pub returns-in-Memory : goal.returns-in-Memory
returns-in-Memory c = search rules
