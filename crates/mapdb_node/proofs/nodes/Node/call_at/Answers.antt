use Rattle.std.proofs.Common.{rules}
use Rattle.mapdb_node.proofs.nodes.Node.call_at.Goals as goal

pub returns-clause-told : goal.returns-clause-told
returns-clause-told c = search rules
