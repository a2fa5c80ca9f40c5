use Rattle.std.proofs.Common.{rules}
use Rattle.mapdb_node.proofs.nodes.Node.seat.Goals as goal

pub returns-clause-number : goal.returns-clause-number
returns-clause-number c = search rules
