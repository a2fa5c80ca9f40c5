use Rattle.std.proofs.Common.{rules}
use Rattle.mapdb_tree.proofs.trees.Tree.end.Goals as goal

pub returns : goal.returns
returns c = search rules
