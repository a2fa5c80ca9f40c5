use Rattle.std.proofs.Common.{rules}
use Rattle.mapdb_tree.proofs.trees.Tree.map_refusal.Goals as goal

pub returns-then-is_over : goal.returns-then-is_over
returns-then-is_over c = search rules
