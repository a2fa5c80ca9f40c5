-- The function has the trees that commands make, and no others.
use Rattle.std.proofs.Common.{◌≡◌, ℕ, zero, suc, Bool, true, Some, refl, sym, ap, subst, ◌∙◌, List, [], ◌∷◌}
use Rattle.std.specs.Prelude.{Option, None, Result, Ok, Err}
use Rattle.mapdb_fpage.specs.Place.{Place, whole}
use Rattle.mapdb_fpage.specs.RightSets.{all_rights}
use Rattle.mapdb_fpage.specs.Transfer.{transfer_of}
use Rattle.mapdb_fpage.specs.declared.items.Transfer.{Transfer}
use Rattle.mapdb_fpage.specs.declared.right_sets.Rights.{Rights}
use Rattle.mapdb_facts.specs.Names.{is_root_number}
use Rattle.mapdb_facts.specs.declared.names.Space.{Space}
use Rattle.mapdb_facts.specs.declared.operations.Op.{Op}
use Rattle.mapdb_replica.specs.Commands.{command_outcome}
use Rattle.mapdb_replica.specs.Replica.{Log, empty, with_issued}
use Rattle.mapdb_replica.specs.declared.commands.Command.{Command}
use Rattle.mapdb_replica.specs.declared.commands.Command.TheVariants.{End, Map, Unmap}
use Rattle.mapdb_replica.specs.declared.faults.IssueFault.{IssueFault}
use Rattle.mapdb_tree.specs.Steps.{AfterMap, AfterUnmap, AreSame, map_refusal}
use Rattle.mapdb_tree.specs.Tree.{Tree, first_tree, mapped, occupied}
use Rattle.mapdb_tree.specs.declared.faults.TreeFault.{TreeFault}
use Rattle.mapdb_sequential.proofs.Lists.Levels.{low_map, low_same, low_start, low_unmap}
use Rattle.mapdb_sequential.proofs.Unmaps.LinkedUnmap.{short_end, short_unmap}
use Rattle.mapdb_sequential.proofs.Trees.Linking.{IsShort, short_map, short_start}
use Rattle.mapdb_sequential.proofs.Trees.PathTrees.{PathTree, first_path_tree, path_after_end, path_after_map, path_after_unmap}
use Rattle.mapdb_sequential.proofs.Lists.Stepping.{free_of, not_occupied, not_refused}
use Rattle.mapdb_sequential.proofs.Trees.Walking.{IsLow, ended_is, ended_only, same_tree, unmapped_is, unmapped_only}
use Rattle.mapdb_sequential.specs.Plain.{After, GoesOnWith, IsPlain, tree_refusal_of}
use Rattle.mapdb_sequential.specs.Trees.{Makes, PlainListsHaveTrees, TreesAreExact, accepted, accepted_onto, tree_after, tree_after_map, tree_after_unmap, tree_from, unless_refused}

-- the whole ways up of a tree, none longer than so many steps
record HasWays (steps : ℕ) (T : Tree) : Type 0 where
  ways : PathTree
  short : IsShort T ways
  low : IsLow steps ways

start : HasWays zero first_tree
start = record { ways = first_path_tree; short = short_start; low = low_start }

-- What a command leaves is what the function gives.

same_itself : (T : Tree) → AreSame T T
same_itself T = record { nodes = λ page. refl; ends = λ space. refl }

map_only : (T T' : Tree) (sender receiver : Space) (o : Option Transfer) → AfterMap T sender o receiver T'
    → T' ≡ tree_after_map T sender o receiver
map_only T T' sender receiver None after = same_tree T T' after
map_only T T' sender receiver (Some transfer) after = same_tree (mapped T sender transfer receiver) T' after

map_is : (T : Tree) (sender receiver : Space) (o : Option Transfer) → AfterMap T sender o receiver (tree_after_map T sender o receiver)
map_is T sender receiver None = same_itself T
map_is T sender receiver (Some transfer) = same_itself (mapped T sender transfer receiver)

unmap_only : (steps : ℕ) (T T' : Tree) → HasWays steps T → (space : Space) (o : Option Place) (rights : Rights) (flush : Bool)
    → AfterUnmap T space o rights flush T' → T' ≡ tree_after_unmap steps T space o rights flush
unmap_only steps T T' has space None rights flush after = same_tree T T' after
unmap_only steps T T' has space (Some part) rights flush after =
    unmapped_only T T' has.ways steps space part rights flush has.short has.low after

unmap_is : (steps : ℕ) (T : Tree) → HasWays steps T → (space : Space) (o : Option Place) (rights : Rights) (flush : Bool)
    → AfterUnmap T space o rights flush (tree_after_unmap steps T space o rights flush)
unmap_is steps T has space None rights flush = same_itself T
unmap_is steps T has space (Some part) rights flush = unmapped_is T has.ways steps space part rights flush has.short has.low

after_only : (steps : ℕ) (T T' : Tree) → HasWays steps T → (command : Command) → After T command T' → T' ≡ tree_after steps T command
after_only steps T T' has (Map sender item receiver window) after = map_only T T' sender receiver (transfer_of item window) after
after_only steps T T' has (Unmap space page rights flush) after = unmap_only steps T T' has space page rights flush after
after_only steps T T' has (End space) after = ended_only T T' has.ways steps space has.short has.low after

after_is : (steps : ℕ) (T : Tree) → HasWays steps T → (command : Command) → After T command (tree_after steps T command)
after_is steps T has (Map sender item receiver window) = map_is T sender receiver (transfer_of item window)
after_is steps T has (Unmap space page rights flush) = unmap_is steps T has space page rights flush
after_is steps T has (End space) = ended_is T has.ways steps space has.short has.low

-- The ways up after a command.

same_ways : (steps : ℕ) (T : Tree) → HasWays steps T → HasWays (suc steps) T
same_ways steps T has = record { ways = has.ways; short = has.short; low = low_same has.ways steps has.low }

map_ways : (steps : ℕ) (T : Tree) → HasWays steps T → (sender receiver : Space) (o : Option Transfer)
    → map_refusal T sender o receiver ≡ None
    → HasWays (suc steps) (tree_after_map T sender o receiver)
map_ways steps T has sender receiver None open_to = same_ways steps T has
map_ways steps T has sender receiver (Some t) open_to =
    let a = not_refused (T.is_over sender) _ _ open_to in
    let b = not_refused (T.is_over receiver) _ _ a.1 in
    let c = not_refused (is_root_number receiver) _ _ b.1 in
    let free = free_of T has.ways has.short sender receiver t (not_occupied receiver (occupied T sender t receiver) c.1) in
    record {
      ways = path_after_map has.ways sender t.source receiver t.target t.rights;
      short = short_map T (mapped T sender t receiver) has.ways sender receiver t free has.short (same_itself (mapped T sender t receiver));
      low = low_map has.ways steps sender t.source receiver t.target t.rights has.low;
    }

unmap_ways : (steps : ℕ) (T : Tree) → HasWays steps T → (space : Space) (o : Option Place) (rights : Rights) (flush : Bool)
    → HasWays (suc steps) (tree_after_unmap steps T space o rights flush)
unmap_ways steps T has space None rights flush = same_ways steps T has
unmap_ways steps T has space (Some part) rights flush = record {
  ways = path_after_unmap has.ways space part rights flush;
  short = short_unmap T (tree_after_unmap steps T space (Some part) rights flush) has.ways space part rights flush has.short
      (unmapped_is T has.ways steps space part rights flush has.short has.low);
  low = low_unmap has.ways steps space part rights flush has.low;
}

after_ways : (steps : ℕ) (T : Tree) → HasWays steps T → (command : Command) → tree_refusal_of T command ≡ None
    → HasWays (suc steps) (tree_after steps T command)
after_ways steps T has (Map sender item receiver window) open_to = map_ways steps T has sender receiver (transfer_of item window) open_to
after_ways steps T has (Unmap space page rights flush) open_to = unmap_ways steps T has space page rights flush
after_ways steps T has (End space) open_to = record {
  ways = path_after_end has.ways space whole;
  short = short_end T (tree_after steps T (End space)) has.ways space has.short (ended_is T has.ways steps space has.short has.low);
  low = low_unmap has.ways steps space whole all_rights true has.low;
}

-- All commands.

pub same_some : (a b : Tree) → Some a ≡ Some b → a ≡ b
same_some a b e = cc

pub none_some : (a : Tree) → None ≡ Some a → ⊥
none_some a e = cc

pub going_on : (refusal : Option TreeFault) (next : Option Tree) (T : Tree) → unless_refused refusal next ≡ Some T
    → (refusal ≡ None) × (next ≡ Some T)
going_on None next T e = (refl, e)
going_on (Some fault) next T e = absurd (none_some T e)

gives : (commands : List Command) (steps : ℕ) (T T' : Tree) → HasWays steps T → Makes T commands T' → tree_from steps T commands ≡ Some T'
unfolding tree_from
gives [] steps T T' has same = ap Some (sym same)
gives (command ∷ commands) steps T T' has (open_to, next, after, rest) =
    let only = after_only steps T next has command after in
    ap (λ (r : Option TreeFault). unless_refused r (tree_from (suc steps) (tree_after steps T command) commands)) open_to
    ∙ gives commands (suc steps) (tree_after steps T command) T' (after_ways steps T has command open_to)
    (subst (λ (X : Tree). Makes X commands T') only rest)

leads : (commands : List Command) (steps : ℕ) (T T' : Tree) → HasWays steps T → tree_from steps T commands ≡ Some T' → Makes T commands T'
unfolding tree_from
leads [] steps T T' has same = sym (same_some T T' same)
leads (command ∷ commands) steps T T' has e =
    let on = going_on (tree_refusal_of T command) (tree_from (suc steps) (tree_after steps T command) commands) T' e in (
      on.0,
      tree_after steps T command,
      after_is steps T has command,
      leads commands (suc steps) (tree_after steps T command) T' (after_ways steps T has command on.0) on.1,
    )

pub trees_are_exact : TreesAreExact
trees_are_exact commands T = (leads commands zero first_tree T start, gives commands zero first_tree T start)

-- one command of a plain list
plain_step : (log : Log) (T T' : Tree) (command : Command) (commands : List Command) (Rest : Log → Tree → Type 0)
    → ((next_log : Log) (next : Tree) → Rest next_log next → Makes next (accepted next_log commands) T')
    → (outcome : Result (List Op) IssueFault) → GoesOnWith log T command Rest outcome
    → Makes T (accepted_onto command (λ next. accepted next commands) log outcome) T'
plain_step log T T' command commands Rest later (Err refusal) rest = later log T rest
plain_step log T T' command commands Rest later (Ok ops) (open_to, next, after, rest) =
    (open_to, next, after, later (with_issued log ops) next rest)

plain_leads : (commands : List Command) (log last : Log) (T T' : Tree) → IsPlain log T commands last T'
    → Makes T (accepted log commands) T'
plain_leads [] log last T T' (same_log, same_one) = same_one
plain_leads (command ∷ commands) log last T T' plain =
    plain_step log T T' command commands (λ next_log next. IsPlain next_log next commands last T')
    (λ next_log next rest. plain_leads commands next_log last next T' rest) (command_outcome log command) plain

pub plain_lists_have_trees : PlainListsHaveTrees
plain_lists_have_trees processor commands log T plain =
    gives (accepted (empty processor) commands) zero first_tree T start (plain_leads commands (empty processor) log first_tree T plain)
