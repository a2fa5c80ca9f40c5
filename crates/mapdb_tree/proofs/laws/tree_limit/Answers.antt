use Rattle.std.proofs.Common.{rules}
use Rattle.mapdb_tree.proofs.laws.tree_limit.Goals as goal

pub returns : goal.returns
returns c = search rules
