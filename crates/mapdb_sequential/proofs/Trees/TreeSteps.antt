-- The tree of commands, when one more comes behind them.
use Rattle.std.proofs.Common.{◌≡◌, ℕ, zero, suc, Some, refl, sym, ap, subst, ◌∙◌, List, [], ◌∷◌, ◌++◌}
use Rattle.std.specs.Prelude.{Option, None}
use Rattle.mapdb_replica.specs.declared.commands.Command.{Command}
use Rattle.mapdb_tree.specs.Tree.{Tree, first_tree}
use Rattle.mapdb_tree.specs.declared.faults.TreeFault.{TreeFault}
use Rattle.mapdb_sequential.proofs.Trees.TreeLists.{going_on, none_some, same_some, trees_are_exact}
use Rattle.mapdb_sequential.specs.Plain.{After, tree_refusal_of}
use Rattle.mapdb_sequential.specs.Trees.{Makes, tree_after, tree_from, tree_of_commands, unless_refused}

leads_on : (commands : List Command) (command : Command) (T Mid T' : Tree) → Makes T commands Mid → tree_refusal_of Mid command ≡ None
    → After Mid command T'
    → Makes T (commands ++ command ∷ []) T'
leads_on [] command T Mid T' same open_to after =
    (subst (λ (X : Tree). tree_refusal_of X command ≡ None) same open_to, T', subst (λ (X : Tree). After X command T') same after, refl)
leads_on (first ∷ commands) command T Mid T' (first_open, next, first_after, rest) open_to after =
    (first_open, next, first_after, leads_on commands command next Mid T' rest open_to after)

-- a command that the tree does not refuse
pub tree_behind : (commands : List Command) (command : Command) (T T' : Tree) → tree_of_commands commands ≡ Some T → tree_refusal_of T command ≡ None
    → After T command T'
    → tree_of_commands (commands ++ command ∷ []) ≡ Some T'
tree_behind commands command T T' is open_to after =
    (trees_are_exact (commands ++ command ∷ []) T').1 (leads_on commands command first_tree T T' ((trees_are_exact commands T).0 is)
    open_to after)

refused_from : (commands more : List Command) (command : Command) (steps : ℕ) (T T' : Tree) (fault : TreeFault)
    → tree_from steps T commands ≡ Some T'
    → tree_refusal_of T' command ≡ Some fault → tree_from steps T (commands ++ command ∷ more) ≡ None
unfolding tree_from
refused_from [] more command steps T T' fault is refused =
    ap (λ (r : Option TreeFault). unless_refused r (tree_from (suc steps) (tree_after steps T command) more))
    (ap (λ (X : Tree). tree_refusal_of X command) (same_some T T' is) ∙ refused)
refused_from (first ∷ commands) more command steps T T' fault is refused =
    let on = going_on (tree_refusal_of T first) (tree_from (suc steps) (tree_after steps T first) commands) T' is in
    ap (λ (r : Option TreeFault). unless_refused r (tree_from (suc steps) (tree_after steps T first) (commands ++ command ∷ more))) on.0
    ∙ refused_from commands more command (suc steps) (tree_after steps T first) T' fault on.1 refused

-- one that it refuses, whatever comes behind it
pub refused_behind : (commands more : List Command) (command : Command) (T : Tree) (fault : TreeFault) → tree_of_commands commands ≡ Some T
    → tree_refusal_of T command ≡ Some fault → tree_of_commands (commands ++ command ∷ more) ≡ None
refused_behind commands more command T fault is refused = refused_from commands more command zero first_tree T fault is refused

none_on : (refusal : Option TreeFault) (next later : Option Tree) → (next ≡ None → later ≡ None) → unless_refused refusal next ≡ None
    → unless_refused refusal later ≡ None
none_on None next later on e = on e
none_on (Some fault) next later on e = refl

none_from : (commands more : List Command) (steps : ℕ) (T : Tree) → tree_from steps T commands ≡ None
    → tree_from steps T (commands ++ more) ≡ None
unfolding tree_from
none_from [] more steps T e = absurd (none_some T (sym e))
none_from (first ∷ commands) more steps T e =
    none_on (tree_refusal_of T first) (tree_from (suc steps) (tree_after steps T first) commands)
    (tree_from (suc steps) (tree_after steps T first) (commands ++ more))
    (none_from commands more (suc steps) (tree_after steps T first)) e

-- where there is none, there is none any more
pub none_behind : (commands more : List Command) → tree_of_commands commands ≡ None → tree_of_commands (commands ++ more) ≡ None
none_behind commands more e = none_from commands more zero first_tree e
