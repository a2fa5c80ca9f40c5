use Rattle.std.proofs.Common.{rules}
use Rattle.mapdb_exchange.proofs.messages.Ops.from_vec.Goals as goal

pub returns : goal.returns
returns c = search rules
