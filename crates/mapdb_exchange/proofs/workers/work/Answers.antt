use Rattle.std.proofs.Common.{rules}
use Rattle.mapdb_exchange.proofs.workers.work.Goals as goal

pub returns-in-Issue-clause-told : goal.returns-in-Issue-clause-told
returns-in-Issue-clause-told c = search rules

pub returns-in-Receive-clause-worked : goal.returns-in-Receive-clause-worked
returns-in-Receive-clause-worked c = search rules
