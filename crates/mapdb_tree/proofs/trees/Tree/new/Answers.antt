use Rattle.std.proofs.Common.{List, sym, subst}
use Rattle.mapdb_tree.specs.Held.{IsForest, held_at}
use Rattle.mapdb_tree.specs.declared.nodes.Node.{Node}
use Rattle.mapdb_tree.specs.declared.nodes.Page.{Page}
use Rattle.mapdb_tree.proofs.Ranks.{first-forest}
use Rattle.mapdb_tree.proofs.trees.Tree.new.Goals as goal

pub invariant_of-result : goal.invariant_of-result
invariant_of-result c = λ known. subst (λ (nodes : List (Page × Node)). IsForest (held_at nodes)) (sym c.new.ensures) first-forest
