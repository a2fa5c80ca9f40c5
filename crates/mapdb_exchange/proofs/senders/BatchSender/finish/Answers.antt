use Rattle.std.proofs.Common.{arith}
use Rattle.mapdb_exchange.proofs.Numbering.{fin_put}
use Rattle.mapdb_exchange.proofs.senders.BatchSender.finish.Goals as goal

pub returns-clause-numbered : goal.returns-clause-numbered
returns-clause-numbered g c = grind (arith, fin_put)
