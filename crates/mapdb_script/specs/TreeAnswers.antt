-- What the sequential tree is asked.
use Rattle.std.specs.Prelude.{Bool, List, Option, Some, None, if◌then◌else◌}
use Rattle.mapdb_replica.specs.Pairs.{Pair}
use Rattle.mapdb_replica.specs.declared.commands.Command.{Command}
use Rattle.mapdb_tree.specs.Steps.{answer_of}
use Rattle.mapdb_tree.specs.Tree.{Tree}
use Rattle.mapdb_tree.specs.declared.nodes.Page.{Page}
use Rattle.mapdb_script.specs.NarrowTrees.{narrow_tree}
use Rattle.mapdb_script.specs.declared.comparing.TreeAnswer.{TreeAnswer}
use Rattle.mapdb_script.specs.declared.comparing.TreeAnswer.TheVariants.{Mapped, NotComparable}
use Rattle.mapdb_script.specs.declared.comparing.TreeAnswer.TheVariants.{Nothing}

-- a frame and the rights to it
abbrev pub page_answer : Option Pair → TreeAnswer
page_answer None = Nothing
page_answer (Some pair) = Mapped pair.0 pair.1

-- what the tree has at a page, where there is a tree
abbrev pub answer_in : Option Tree → Page → TreeAnswer
answer_in None page = NotComparable
answer_in (Some T) page = page_answer (answer_of (T.node_at page))

-- what the tree of these commands has at a page; none is to be compared with a copy that took
-- something from others
abbrev pub tree_answer : Bool → List Command → Page → TreeAnswer
tree_answer is_alone commands page = if is_alone then answer_in (narrow_tree commands) page
    else NotComparable
