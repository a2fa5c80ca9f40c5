-- After a plain list the copy and the tree refuse alike.
use Rattle.std.proofs.Common.{◌≡◌, Bool, true, false, Some, refl, ◌∙◌, List, [], ◌∷◌}
use Rattle.std.specs.Prelude.{Option, None, Result, nat_lt, length, count_by, ◌+◌, if◌then◌else◌}
use Rattle.std.specs.List.{list_any}
use Rattle.mapdb_replica.specs.declared.faults.IssueFault.TheVariants as issue
use Rattle.mapdb_tree.specs.declared.faults.TreeFault.TheVariants as tree
use Rattle.mapdb_fpage.specs.Transfer.{transfer_of}
use Rattle.mapdb_facts.specs.Adding.{is_new}
use Rattle.mapdb_facts.specs.Names.{is_root_number}
use Rattle.mapdb_facts.specs.State.{state_of}
use Rattle.mapdb_facts.specs.declared.names.Space.{Space}
use Rattle.mapdb_facts.specs.declared.operations.Op.{Op}
use Rattle.mapdb_facts.specs.declared.operations.Op.TheVariants.{Closed}
use Rattle.mapdb_replica.specs.Commands.{command_outcome}
use Rattle.mapdb_replica.specs.Issue.{map_candidates}
use Rattle.mapdb_replica.specs.Replica.{Log, empty, is_spent, issued_unless, limited, most_operations, news, unless_spaces}
use Rattle.mapdb_replica.specs.Unmap.{unmap_candidates}
use Rattle.mapdb_replica.specs.declared.commands.Command.{Command}
use Rattle.mapdb_replica.specs.declared.commands.Command.TheVariants.{End, Map, Unmap}
use Rattle.mapdb_replica.specs.declared.faults.IssueFault.{IssueFault}
use Rattle.mapdb_sequential.proofs.Trees.PageAnswers.{has_node}
use Rattle.mapdb_sequential.proofs.Lists.Running.{matched_run, matched_start}
use Rattle.mapdb_sequential.specs.Plain.{After, tree_refusal_of}
use Rattle.mapdb_tree.specs.Steps.{AfterMap, AfterUnmap, map_occupied, occupied_refusal}
use Rattle.mapdb_tree.specs.Tree.{mapped, Tree, first_tree}
use Rattle.mapdb_fpage.specs.Place.{Place}
use Rattle.mapdb_fpage.specs.declared.items.Transfer.{Transfer}
use Rattle.mapdb_fpage.specs.declared.right_sets.Rights.{Rights}
use Rattle.mapdb_sequential.proofs.Unmaps.LinkedUnmap.{end_leaves, unmap_leaves}
use Rattle.mapdb_sequential.proofs.Trees.Linking.{IsShort}
use Rattle.mapdb_sequential.proofs.Trees.PathTrees.{PathTree}
use Rattle.mapdb_sequential.specs.Sequential.{CommandsLeaveTrees, RefusalsAgree, SequentialTree, destination_refusal, for_spaces_or}
use Rattle.mapdb_tree.specs.declared.faults.TreeFault.{TreeFault}

-- a limit is none of the tree's
limits_open : (spent full : Bool) (more : List Op) (other : Option TreeFault)
    → other ≡ for_spaces_or (issued_unless (if spent then Some issue.NumbersSpent else (if full then Some issue.Full else None)) more) other
limits_open true full more other = refl
limits_open false true more other = refl
limits_open false false more other = refl

limited_open : (ops all : List Op) (other : Option TreeFault) → other ≡ for_spaces_or (limited ops all) other
limited_open ops all other =
    limits_open (list_any is_spent all) (nat_lt most_operations (length ops + count_by (is_new (state_of ops)) all)) (news (state_of ops) all) other

map_alike : (sender receiver : Space) (sender_over receiver_over first : Bool) (outcome : Result (List Op) IssueFault) (other : Option TreeFault)
    → other ≡ for_spaces_or outcome other
    → (if sender_over then Some (tree.SpaceEnded sender) else
    (if receiver_over then Some (tree.SpaceEnded receiver) else (if first then Some tree.RootSpace else other)))
    ≡ for_spaces_or (unless_spaces (if sender_over then Some (issue.SpaceEnded sender) else
    (if receiver_over then Some (issue.SpaceEnded receiver) else (if first then Some issue.RootSpace else None))) outcome) other
map_alike sender receiver true receiver_over first outcome other same = refl
map_alike sender receiver false true first outcome other same = refl
map_alike sender receiver false false true outcome other same = refl
map_alike sender receiver false false false outcome other same = same

unmap_alike : (space : Space) (over : Bool) (outcome : Result (List Op) IssueFault) → None ≡ for_spaces_or outcome None
    → (if over then Some (tree.SpaceEnded space) else None) ≡ for_spaces_or
    (unless_spaces (if over then Some (issue.SpaceEnded space) else None) outcome) None
unmap_alike space true outcome same = refl
unmap_alike space false outcome same = same

end_alike : (space : Space) (over first : Bool) (outcome : Result (List Op) IssueFault) → None ≡ for_spaces_or outcome None
    → (if over then Some (tree.SpaceEnded space) else (if first then Some tree.RootSpace else None))
    ≡ for_spaces_or (unless_spaces (if over then Some (issue.SpaceEnded space) else (if first then Some issue.RootSpace else None)) outcome) None
end_alike space true first outcome same = refl
end_alike space false true outcome same = refl
end_alike space false false outcome same = same

alike : (log : Log) (T : Tree) → ((space : Space) → T.is_over space ≡ (state_of log.ops).is_ended space) → (command : Command)
    → tree_refusal_of T command ≡ for_spaces_or (command_outcome log command) (destination_refusal T command)
alike log T over (Map sender item receiver window) =
    let other : Option TreeFault = occupied_refusal receiver (map_occupied T sender (transfer_of item window) receiver) in
    let all : List Op = map_candidates log.ops log.processor sender (transfer_of item window) receiver in
    (λ i. if over sender i then Some (tree.SpaceEnded sender) else
    (if over receiver i then Some (tree.SpaceEnded receiver) else (if is_root_number receiver then Some tree.RootSpace else other)))
    ∙ map_alike sender receiver ((state_of log.ops).is_ended sender) ((state_of log.ops).is_ended receiver) (is_root_number receiver)
    (limited log.ops all) other (limited_open log.ops all other)
alike log T over (Unmap space page rights flush) =
    let all : List Op = unmap_candidates log.ops space page rights flush in
    (λ i. if over space i then Some (tree.SpaceEnded space) else None)
    ∙ unmap_alike space ((state_of log.ops).is_ended space) (limited log.ops all) (limited_open log.ops all None)
alike log T over (End space) =
    (λ i. if over space i then Some (tree.SpaceEnded space) else (if is_root_number space then Some tree.RootSpace else None))
    ∙ end_alike space ((state_of log.ops).is_ended space) (is_root_number space) (limited log.ops (Closed space ∷ []))
    (limited_open log.ops (Closed space ∷ []) None)

pub refusals_agree : RefusalsAgree
refusals_agree processor commands log T are plain command =
    let is = matched_run commands (empty processor) log first_tree T are plain (matched_start processor) in
    alike log T (λ space. is.reflects.like.over space ∙ is.reflects.shows.ends space) command

pub sequential_tree : SequentialTree
sequential_tree processor commands log T are plain page =
    let is = matched_run commands (empty processor) log first_tree T are plain (matched_start processor) in
    has_node log T is.kept.form is.reflects page

map_leaves : (T : Tree) (sender receiver : Space) (o : Option Transfer) → (next : Tree) × AfterMap T sender o receiver next
map_leaves T sender receiver None = (T, record { nodes = λ page. refl; ends = λ space. refl })
map_leaves T sender receiver (Some t) = (mapped T sender t receiver, record { nodes = λ page. refl; ends = λ space. refl })

unmap_leaves_any : (T : Tree) (U : PathTree) → IsShort T U → (space : Space) (o : Option Place) (rights : Rights) (flush : Bool)
    → (next : Tree) × AfterUnmap T space o rights flush next
unmap_leaves_any T U is space None rights flush = (T, record { nodes = λ page. refl; ends = λ other. refl })
unmap_leaves_any T U is space (Some part) rights flush = unmap_leaves T U is space part rights flush

leaves : (T : Tree) (U : PathTree) → IsShort T U → (command : Command) → (next : Tree) × After T command next
leaves T U is (Map sender item receiver window) = map_leaves T sender receiver (transfer_of item window)
leaves T U is (Unmap space page rights flush) = unmap_leaves_any T U is space page rights flush
leaves T U is (End space) = end_leaves T U is space

pub commands_leave_trees : CommandsLeaveTrees
commands_leave_trees processor commands log T are plain command open_to =
    let is = matched_run commands (empty processor) log first_tree T are plain (matched_start processor) in
    leaves T is.reflects.ways is.reflects.like command
