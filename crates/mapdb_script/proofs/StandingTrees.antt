-- Copies that stand for trees: what a command makes of them.
use Rattle.std.proofs.Common.{◌≡◌, ◌∙◌, ℕ, zero, suc, ◌+◌, Bool, true, false, Some, None, refl, sym, ap, subst, List, [], ◌∷◌, ◌++◌, inl, inr}
use Rattle.std.specs.Prelude.{◌⊎◌, ◌↔◌, not, Option, Result, Ok, Err, IsTrue, slice_get, slice_set, if◌then◌else◌}
use Rattle.std.specs.Option.{is_some}
use Rattle.std.proofs.lemmas.Bool.{cases_Bool, true≢false}
use Rattle.mapdb_fpage.specs.Place.{holds, page_total}
use Rattle.mapdb_fpage.specs.RightSets.{common, is_empty}
use Rattle.mapdb_fpage.specs.Transfer.{transfer_of}
use Rattle.mapdb_fpage.specs.declared.items.Transfer.{Transfer}
use Rattle.mapdb_fpage.specs.declared.right_sets.Rights.{Rights}
use Rattle.mapdb_fpage.proofs.Meets.{holds_range}
use Rattle.mapdb_facts.specs.declared.names.Space.{Space}
use Rattle.mapdb_facts.specs.declared.operations.Op.{Op}
use Rattle.mapdb_replica.specs.Commands.{IsCommand, command_outcome}
use Rattle.mapdb_replica.specs.Replica.{Log, empty, with_issued}
use Rattle.mapdb_replica.specs.Served.{served}
use Rattle.mapdb_replica.specs.declared.commands.Command.{Command}
use Rattle.mapdb_replica.specs.declared.commands.Command.TheVariants.{End, Map, Unmap}
use Rattle.mapdb_replica.specs.declared.faults.IssueFault.{IssueFault}
use Rattle.mapdb_tree.specs.Steps.{answer_of, map_occupied, occupied_refusal}
use Rattle.mapdb_tree.specs.Tree.{Tree, are_both, brought, first_tree, handed, is_occupied, least_page, occupied, page_behind}
use Rattle.mapdb_tree.specs.declared.faults.TreeFault.{TreeFault}
use Rattle.mapdb_tree.specs.declared.nodes.Node.{Node}
use Rattle.mapdb_tree.specs.declared.nodes.Page.{Page}
use Rattle.mapdb_cluster.proofs.Steps.Slots.{set_here}
use Rattle.mapdb_sequential.specs.Plain.{After, AreCommands, GoesOnWith, IsPlain, tree_refusal_of}
use Rattle.mapdb_sequential.specs.Sequential.{HasNode, destination_refusal, for_spaces_or}
use Rattle.mapdb_sequential.proofs.Lists.PlainLists.{commands_leave_trees, refusals_agree, sequential_tree}
use Rattle.mapdb_sequential.proofs.Lists.Stepping.{not_occupied}
use Rattle.mapdb_script.specs.Accepting.{Accepted, with_next}
use Rattle.mapdb_script.specs.NarrowTrees.{is_narrow, narrow_tree}
use Rattle.mapdb_script.specs.TreeAnswers.{page_answer, tree_answer}
use Rattle.mapdb_script.specs.Standing.{CopiesStandFor, IsFreeTarget, MapGoesOn, ShowsTree, sent_page, shares}
use Rattle.mapdb_script.proofs.NarrowTrees.{IsShut, narrow_behind, no_narrow_behind, shut_behind}
use Rattle.mapdb_tree.proofs.Least.{least-none}

-- One command more.

goes_by : (log : Log) (T : Tree) (command : Command) (Rest : Log → Tree → Type 0) (o : Result (List Op) IssueFault) (ops : List Op)
    → o ≡ Ok ops → (next : Tree) → tree_refusal_of T command ≡ None → After T command next → Rest (with_issued log ops) next
    → GoesOnWith log T command Rest o
goes_by log T command Rest (Ok more) ops e next open_to after rest =
    let same : ops ≡ more = cc in
    (open_to, next, after, subst (λ (x : List Op). Rest (with_issued log x) next) same rest)
goes_by log T command Rest (Err fault) ops e next open_to after rest = absurd (never e)
  where
    never : (let o : Result (List Op) IssueFault = Err fault in o) ≡ Ok ops → ⊥
    never e = cc

goes_map : (log : Log) (T : Tree) (command : Command) (Rest More : Log → Tree → Type 0) (o : Result (List Op) IssueFault)
    → ((next_log : Log) (next : Tree) → Rest next_log next → More next_log next) → GoesOnWith log T command Rest o
    → GoesOnWith log T command More o
goes_map log T command Rest More (Ok ops) f is = (is.0, is.1, is.2, f (with_issued log ops) is.1 is.3)
goes_map log T command Rest More (Err fault) f is = f log T is

plain_behind : (commands : List Command) (command : Command) (log last : Log) (T T' next : Tree) (ops : List Op)
    → IsPlain log T commands last T' → command_outcome last command ≡ Ok ops → tree_refusal_of T' command ≡ None → After T' command next
    → IsPlain log T (commands ++ command ∷ []) (with_issued last ops) next
plain_behind [] command log last T T' next ops plain issues open_to after =
    let same : last ≡ log = plain.0 in
    let tree : T' ≡ T = plain.1 in
    goes_by log T command (λ next_log other. IsPlain next_log other [] (with_issued last ops) next) (command_outcome log command) ops
    (ap (λ (x : Log). command_outcome x command) (sym same) ∙ issues) next
    (ap (λ (x : Tree). tree_refusal_of x command) (sym tree) ∙ open_to)
    (subst (λ (x : Tree). After x command next) tree after)
    (ap (λ (x : Log). with_issued x ops) same, refl)
plain_behind (first ∷ commands) command log last T T' next ops plain issues open_to after =
    goes_map log T first (λ next_log other. IsPlain next_log other commands last T')
    (λ next_log other. IsPlain next_log other (commands ++ command ∷ []) (with_issued last ops) next) (command_outcome log first)
    (λ next_log other rest. plain_behind commands command next_log last other T' next ops rest issues open_to after) plain

are_behind : (commands : List Command) (command : Command) → AreCommands commands → IsCommand command → AreCommands (commands ++ command ∷ [])
are_behind [] command are is = (is, tt)
are_behind (first ∷ commands) command are is = (are.0, are_behind commands command are.1 is)

-- the copy shows the tree after a command that the tree does not refuse
shows_behind : (log : Log) (commands : List Command) (command : Command) (ops : List Op) → (shows : ShowsTree log commands) → IsCommand command
    → command_outcome log command ≡ Ok ops → is_narrow command ≡ true → destination_refusal shows.tree command ≡ None
    → ShowsTree (with_issued log ops) (commands ++ command ∷ [])
shows_behind log commands command ops shows is issues narrow free =
    let T : Tree = shows.tree in
    let open_to : tree_refusal_of T command ≡ None =
    refusals_agree 0 commands log T shows.places shows.plain command
    ∙ ap (λ (o : Result (List Op) IssueFault). for_spaces_or o (destination_refusal T command)) issues ∙ free in
    let next = commands_leave_trees 0 commands log T shows.places shows.plain command open_to in
    record {
      tree = next.0;
      plain = plain_behind commands command (empty 0) log first_tree T next.0 ops shows.plain issues open_to next.1;
      places = are_behind commands command shows.places is;
      is = narrow_behind commands command T next.0 shows.is narrow open_to next.1;
    }

-- Destinations.

handed_some : (o : Option Node) (from : Page) (rights : Rights) → is_some (handed o from rights) ≡ shares (answer_of o) rights
handed_some None from rights = refl
handed_some (Some node) from rights = by (is_empty (common node.rights rights))
  where
    by : (b : Bool) → (let o : Option Node = if b then None else Some (record { frame = node.frame; rights = common node.rights rights; parent = Some from }) in is_some o) ≡ not b
    by true = refl
    by false = refl

no_answer : (o : Option Node) → answer_of o ≡ None → o ≡ None
no_answer None e = refl
no_answer (Some node) e = absurd (never e)
  where
    never : (let o : Option (ℕ × Rights) = Some (node.frame, node.rights) in o) ≡ None → ⊥
    never e = cc

both_new : (new old : Option Node) → is_some new ≡ true → are_both new old ≡ false → old ≡ None
both_new (Some new) None some e = refl
both_new (Some new) (Some old) some e = absurd (true≢false e)
both_new None old some e = absurd (true≢false (sym some))

both_none : (new old : Option Node) → (is_some new ≡ true → old ≡ None) → are_both new old ≡ false
both_none None old f = refl
both_none (Some new) None f = refl
both_none (Some new) (Some old) f = absurd (never (f refl))
  where
    never : Some old ≡ None → ⊥
    never e = cc

module _ (log : Log) (T : Tree) (has : (page : Page) → HasNode log T page) (sender receiver : Space) (t : Transfer) where
  from : ℕ → Page
  from number = page_behind sender t number

  into : ℕ → Page
  into number = record { space = receiver; number = number }

  brought_some : (number : ℕ) → holds t.target number ≡ true
      → is_some (brought T sender t number) ≡ shares (served log.ops sender (sent_page t number)) t.rights
  unfolding from
  brought_some number inside =
      ap (λ (b : Bool). is_some (if b then handed (T.node_at (from number)) (from number) t.rights else None)) inside
      ∙ handed_some (T.node_at (from number)) (from number) t.rights
      ∙ ap (λ (o : Option (ℕ × Rights)). shares o t.rights) (sym (has (from number)).served_with)

  -- where no page is occupied, what would come goes to free pages
  free_pages : occupied T sender t receiver ≡ None → IsFreeTarget (served log.ops) sender (Some t) receiver
  unfolding into
  free_pages none number inside shared =
      let range = holds_range t.target number inside in
      let test = least-none t.target.first_page (page_total t.target) (is_occupied T sender t receiver) none number range.0 range.1 in
      (has (into number)).served_with
      ∙ ap answer_of (both_new (brought T sender t number) (T.node_at (into number)) (brought_some number inside ∙ shared) test)

  free_page : IsFreeTarget (served log.ops) sender (Some t) receiver → (number : ℕ) → is_occupied T sender t receiver number ≡ false
  unfolding into from
  free_page free number = elim (cases_Bool (holds t.target number)) [
    | inl inside ↦
        both_none (brought T sender t number) (T.node_at (into number))
        (λ some. no_answer (T.node_at (into number)) (sym (has (into number)).served_with
        ∙ free number inside (sym (brought_some number inside) ∙ some)))
    | inr outside ↦
        ap (λ (b : Bool). are_both (if b then handed (T.node_at (from number)) (from number) t.rights else None) (T.node_at (into number))) outside
  ]

  least_free : (test : ℕ → Bool) → ((number : ℕ) → test number ≡ false) → (first count : ℕ) → least_page first count test ≡ None
  least_free test none first zero = refl
  least_free test none first (suc count) =
      ap (λ (b : Bool). if b then Some first else least_page (first + 1) count test) (none first) ∙ least_free test none (first + 1) count

  -- and the other way round
  none_occupied : IsFreeTarget (served log.ops) sender (Some t) receiver → occupied T sender t receiver ≡ None
  none_occupied free = least_free (is_occupied T sender t receiver) (free_page free) t.target.first_page (page_total t.target)

-- whether the tree goes on with a command that the copy does not refuse
abbrev pub CommandGoesOn : Log → Command → Type 0
CommandGoesOn log (Map sender item receiver window) = MapGoesOn log sender (transfer_of item window) receiver
CommandGoesOn log command = is_narrow command ≡ true

narrow_on : (log : Log) (command : Command) → CommandGoesOn log command → is_narrow command ≡ true
narrow_on log (Map sender item receiver window) on = on.0
narrow_on log (Unmap space page rights flush) on = on
narrow_on log (End space) on = on

module _ (log : Log) (T : Tree) (has : (page : Page) → HasNode log T page) where
  carried_on : (sender : Space) (o : Option Transfer) (receiver : Space) → IsFreeTarget (served log.ops) sender o receiver
      → occupied_refusal receiver (map_occupied T sender o receiver) ≡ None
  carried_on sender None receiver free = refl
  carried_on sender (Some t) receiver free = ap (occupied_refusal receiver) (none_occupied log T has sender receiver t free)

  carried_free : (sender : Space) (o : Option Transfer) (receiver : Space) → occupied_refusal receiver (map_occupied T sender o receiver) ≡ None
      → IsFreeTarget (served log.ops) sender o receiver
  carried_free sender None receiver none = tt
  carried_free sender (Some t) receiver none = free_pages log T has sender receiver t (not_occupied receiver (occupied T sender t receiver) none)

  destination_on : (command : Command) → CommandGoesOn log command → destination_refusal T command ≡ None
  destination_on (Map sender item receiver window) on = carried_on sender (transfer_of item window) receiver on.1
  destination_on (Unmap space page rights flush) on = refl
  destination_on (End space) on = refl

  on_by : (command : Command) → is_narrow command ≡ true → destination_refusal T command ≡ None → CommandGoesOn log command
  on_by (Map sender item receiver window) narrow none = (narrow, carried_free sender (transfer_of item window) receiver none)
  on_by (Unmap space page rights flush) narrow none = narrow
  on_by (End space) narrow none = narrow

  -- with what it does not go on, the tree refuses, or is too narrow for
  shut_by : (command : Command) (ops : List Op) → tree_refusal_of T command ≡ for_spaces_or (command_outcome log command) (destination_refusal T command)
      → command_outcome log command ≡ Ok ops → (CommandGoesOn log command → ⊥) → IsShut T command
  shut_by command ops agree issues off = elim (cases_Bool (is_narrow command)) [
    | inl narrow ↦ refused (tree_refusal_of T command) refl narrow
    | inr wide ↦ inl wide
  ]
    where
      refused : (o : Option TreeFault) → tree_refusal_of T command ≡ o → is_narrow command ≡ true → IsShut T command
      refused (Some fault) e narrow = inr (fault, e)
      refused None e narrow =
          absurd (off (on_by command narrow
          (sym (ap (λ (o : Result (List Op) IssueFault). for_spaces_or o (destination_refusal T command)) issues) ∙ sym agree ∙ e)))

-- What stands for the commands.

has_nodes : (log : Log) (commands : List Command) (shows : ShowsTree log commands) (page : Page) → HasNode log shows.tree page
has_nodes log commands shows page = sequential_tree 0 commands log shows.tree shows.places shows.plain page

next_alone : (accepted : Accepted) (command : Command) → accepted.is_alone ≡ true
    → with_next accepted 0 command ≡ record { commands = accepted.commands ++ command ∷ []; is_alone = true }
next_alone accepted command alone = rw alone refl

next_heard : (accepted : Accepted) (at : ℕ) (command : Command) → accepted.is_alone ≡ false → with_next accepted at command ≡ accepted
next_heard accepted at command heard = rw heard refl

-- a command that processor 0's copy accepted
pub stands_command : (shows after : Bool) (copies : List Log) (accepted : Accepted) (command : Command) (log : Log) (ops : List Op)
    → CopiesStandFor shows copies accepted → slice_get copies 0 ≡ Some log → IsCommand command → command_outcome log command ≡ Ok ops
    → (IsTrue after ↔ IsTrue shows × CommandGoesOn log command)
    → CopiesStandFor after (slice_set copies 0 (with_issued log ops)) (with_next accepted 0 command)
stands_command true true copies accepted command log ops stands there is issues on =
    let shows : ShowsTree log accepted.commands = rw there at stands.1 in
    let goes = (on.0 refl).1 in
    let has = has_nodes log accepted.commands shows in
    rw (next_alone accepted command stands.0, set_here copies 0 log (with_issued log ops) there)
    (refl, shows_behind log accepted.commands command ops shows is issues (narrow_on log command goes) (destination_on log shows.tree has command goes))
stands_command true false copies accepted command log ops stands there is issues on =
    let shows : ShowsTree log accepted.commands = rw there at stands.1 in
    let has = has_nodes log accepted.commands shows in
    let off : CommandGoesOn log command → ⊥ = λ goes. true≢false (sym (on.1 (refl, goes))) in
    rw (next_alone accepted command stands.0)
    (inr (shut_behind accepted.commands command shows.tree shows.is (shut_by log shows.tree has command ops
    (refusals_agree 0 accepted.commands log shows.tree shows.places shows.plain command) issues off)))
stands_command false true copies accepted command log ops stands there is issues on = absurd (true≢false (sym (on.0 refl).0))
stands_command false false copies accepted command log ops stands there is issues on = by (accepted.is_alone) refl stands
  where
    by : (b : Bool) → accepted.is_alone ≡ b → (accepted.is_alone ≡ false) ⊎ (narrow_tree accepted.commands ≡ None)
        → CopiesStandFor false (slice_set copies 0 (with_issued log ops)) (with_next accepted 0 command)
    by false heard none = rw (next_heard accepted 0 command heard) (inl heard)
    by true alone (inl heard) = absurd (true≢false (sym alone ∙ heard))
    by true alone (inr none) = rw (next_alone accepted command alone) (inr (no_narrow_behind accepted.commands (command ∷ []) none))

-- what the tree has at a page, by the copy
pub tree_told : (copies : List Log) (accepted : Accepted) (copy : Log) (page : Page) → CopiesStandFor true copies accepted → slice_get copies 0 ≡ Some copy
    → tree_answer accepted.is_alone accepted.commands page ≡ page_answer (served copy.ops page.space page.number)
tree_told copies accepted copy page stands there =
    let shows : ShowsTree copy accepted.commands = rw there at stands.1 in
    rw (stands.0, shows.is) (ap page_answer (sym (has_nodes copy accepted.commands shows page).served_with))
