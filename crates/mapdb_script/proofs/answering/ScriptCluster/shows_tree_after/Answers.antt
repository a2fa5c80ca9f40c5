use Rattle.std.proofs.Common.{rules}
use Rattle.mapdb_script.proofs.answering.ScriptCluster.shows_tree_after.Goals as goal

pub returns-then-shows_tree : goal.returns-then-shows_tree
returns-then-shows_tree c =
    rw c.in-Map.is ((λ is. (c.if-shows_tree.true, c.first_goes_on.ensures.0 is)), (λ both. c.first_goes_on.ensures.1 both.1))

pub returns-then-shows_tree-3 : goal.returns-then-shows_tree-3
returns-then-shows_tree-3 c = search rules
