use Rattle.std.proofs.Common.{rules}
use Rattle.mapdb_node.proofs.sharing.Shared.call.Goals as goal

pub returns-clause-step : goal.returns-clause-step
returns-clause-step c = search rules
