use Rattle.std.proofs.Common.{rules}
use Rattle.mapdb_tree.proofs.stored.first_node.Goals as goal

pub returns : goal.returns
returns c = search rules
