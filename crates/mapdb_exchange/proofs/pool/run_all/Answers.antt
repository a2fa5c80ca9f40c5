use Rattle.std.proofs.Common.{rules}
use Rattle.mapdb_exchange.proofs.pool.run_all.Goals as goal

pub returns : goal.returns
returns c = search rules
