use Rattle.std.proofs.Common.{rules}
use Rattle.mapdb_exchange.proofs.exchange.is_count.Goals as goal

pub returns-then-capacity-ge1 : goal.returns-then-capacity-ge1
returns-then-capacity-ge1 c = search rules
