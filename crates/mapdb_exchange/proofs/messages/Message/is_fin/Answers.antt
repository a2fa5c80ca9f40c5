use Rattle.std.proofs.Common.{rules}
use Rattle.mapdb_exchange.proofs.messages.Message.is_fin.Goals as goal

pub returns-in_default : goal.returns-in_default
returns-in_default c = search rules
