-- The tree shows the state after an End.
use Rattle.std.proofs.Common.{◌≡◌, ℕ, zero, suc, ◌<◌, ◌≤◌, Bool, true, false, refl, sym, ap, ◌∙◌, arith, inl, inr, List, [], ◌∷◌}
use Rattle.std.specs.Prelude.{◌&&◌, ◌||◌, nat_lt, not, Option}
use Rattle.std.proofs.lemmas.Bool.{and_parts, and_from, cond-true, cond-false, cases_Bool}
use mathlib.Core.Bool.{and-true}
use Rattle.mapdb_fpage.specs.Place.{Place, holds, is_page}
use Rattle.mapdb_fpage.specs.RightSets.{all_rights, includes}
use Rattle.mapdb_fpage.specs.declared.right_sets.Right.{Right}
use Rattle.mapdb_fpage.specs.declared.right_sets.Right.TheVariants.{Execute, Read, Write}
use Rattle.mapdb_facts.proofs.Lists.SameNames.{same_space_itself}
use Rattle.mapdb_facts.specs.Names.{is_first_space, is_root, same_space}
use Rattle.mapdb_facts.specs.State.{State}
use Rattle.mapdb_facts.specs.declared.names.RecordId.{RecordId}
use Rattle.mapdb_facts.specs.declared.names.Space.{Space}
use Rattle.mapdb_facts.specs.declared.operations.Record.{Record}
use Rattle.mapdb_rights.proofs.Rights.Backed.{backing}
use Rattle.mapdb_rights.proofs.Rights.Steps.{earlier, has_right-record, has_right-root}
use Rattle.mapdb_rights.specs.PageRights.{is_into, is_record_into}
use Rattle.mapdb_rights.specs.Right.{allows, has_right, reaches, source_page}
use Rattle.mapdb_sequential.proofs.Trees.PathTrees.{PathTree, goes_through, path_after_end}
use Rattle.mapdb_sequential.proofs.Trees.Showing.{ComesThrough, Shows}
use Rattle.mapdb_sequential.proofs.Lists.StateSteps.{IsEndedState, IsTaken, is_hit}
use Rattle.mapdb_sequential.proofs.Unmaps.UnmapShown.{nodes_after}
use Rattle.mapdb_sequential.proofs.Unmaps.Unmapping.{is_among_into, same_into}
use Rattle.mapdb_tree.specs.Tree.{is_in_part}
use Rattle.mapdb_tree.specs.declared.nodes.Page.{Page}

all_hit : (right : Right) (t : Bool) → is_hit all_rights right t ≡ t
all_hit Read t = refl
all_hit Write t = refl
all_hit Execute t = refl

not_ended : (e k : Bool) → not (e || k) ≡ true → not e ≡ true
not_ended false k h = refl
not_ended true k h = h

ended_once : (e k m g : Bool) → (not (e || k) && not (g || m)) ≡ (not e && not ((m || g) || k))
ended_once true k m g = refl
ended_once false true true g = refl
ended_once false true false true = refl
ended_once false true false false = refl
ended_once false false true true = refl
ended_once false false true false = refl
ended_once false false false true = refl
ended_once false false false false = refl

regrouped_last : (r n h a b c d : Bool) → (a && b) ≡ (c && d) → ((r && (n && a)) && (h && b)) ≡ (((r && (n && c)) && h) && d)
regrouped_last false n h a b c d same = refl
regrouped_last true false h a b c d same = refl
regrouped_last true true h false b false d same = refl
regrouped_last true true true true b true d same = same
regrouped_last true true true true b false d same = same
regrouped_last true true true false b true d same = same
regrouped_last true true false true b true d same = refl
regrouped_last true true false true b false d same = refl
regrouped_last true true false false b true d same = refl

module _ (S S' : State) (space : Space) (part : Place) (done : IsEndedState S S' space part) where
  less_root : (id : RecordId) (page : ℕ) (right : Right) → is_root id ≡ true → has_right S' id page right ≡ true → has_right S id page right ≡ true
  less_root id page right top h =
      has_right-root S id page right top ∙ ap (λ (c : Bool). is_page page && not c) (sym (done.cuts id page right))
      ∙ sym (has_right-root S' id page right top) ∙ h

  less_record : (id : RecordId) (page : ℕ) (right : Right) → ((q : RecordId) (s : ℕ) → q.number < id.number → has_right S' q s right ≡ true
      → has_right S q s right ≡ true) → is_root id ≡ false → has_right S' id page right ≡ true → has_right S id page right ≡ true
  less_record id page right before other h =
      let b = backing S' id page right other h in
      let parts = and_parts (includes b.r.rights right && not (S'.is_cut id page right)) (not (S'.is_ended b.r.space)) b.allowed in
      let allowed : allows S id b.r page right ≡ true =
      and_from (includes b.r.rights right && not (S.is_cut id page right)) (not (S.is_ended b.r.space))
      (ap (λ (c : Bool). includes b.r.rights right && not c) (sym (done.cuts id page right)) ∙ parts.0)
      (not_ended (S.is_ended b.r.space) (same_space space b.r.space) (ap not (sym (done.ends b.r.space)) ∙ parts.1)) in
      has_right-record S id b.r page right other (sym (done.records id) ∙ b.held)
      ∙ and_from (reaches id b.r page && allows S id b.r page right) (has_right S b.r.parent (source_page b.r page) right)
      (and_from (reaches id b.r page) (allows S id b.r page right) b.reach allowed)
      (before b.r.parent (source_page b.r page) (earlier id b.r page b.reach) b.parent_has)

  less_within : (n : ℕ) (id : RecordId) (page : ℕ) (right : Right) → id.number ≤ n → has_right S' id page right ≡ true
      → has_right S id page right ≡ true
  less_within zero id page right below h = elim (cases_Bool (is_root id)) [
    | inl top ↦ less_root id page right top h
    | inr other ↦ less_record id page right (λ q s lt _. absurd (omega arith)) other h
  ]
  less_within (suc n) id page right below h = elim (cases_Bool (is_root id)) [
    | inl top ↦ less_root id page right top h
    | inr other ↦ less_record id page right (λ q s lt had. less_within n q s right (omega arith) had) other h
  ]

  -- the ended space's records lose all, and so does what came through them
  has_right-over : (id : RecordId) (page frame : ℕ) (above : List Page) (spot : Page) (right : Right) → ComesThrough S id page frame above
      → is_into S spot.space id ≡ true → spot.number ≡ page → has_right S' id page right
      ≡ (has_right S id page right && not (goes_through space part above || (true && is_in_part space part spot)))
  has_right-over id page frame [] spot right (top, inside, same) into at =
      has_right-root S' id page right top
      ∙ ap (λ (c : Bool). is_page page && not c) (done.cuts id page right)
      ∙ sym (has_right-root S id page right top)
      ∙ sym (and-true (has_right S id page right))
      ∙ ap (λ (t : Bool). has_right S id page right && not t) (sym missed)
    where
      missed : is_in_part space part spot ≡ false
      missed =
          sym (is_among_into S space part spot id page into at)
          ∙ ap (λ (t : Bool). t && holds part page) (cond-true (is_root id) (is_first_space space) (is_record_into (S.record_at id) space) top
          ∙ done.not_first)
  has_right-over id page frame (next ∷ spots) spot right (other, r, held, reach, next_page, next_into, next_lies, up) into at =
      let above_it : has_right S' r.parent (source_page r page) right
      ≡ (has_right S r.parent (source_page r page) right && not (goes_through space part spots || is_in_part space part next)) =
      has_right-over r.parent (source_page r page) frame spots next right up next_into next_page in
      has_right-record S' id r page right other (done.records id ∙ held)
      ∙ (λ i. reaches id r page && (includes r.rights right && not (done.cuts id page right i) && not (over i)) && above_it i)
      ∙ regrouped_last (reaches id r page) (includes r.rights right && not (S.is_cut id page right)) (has_right S r.parent (source_page r page) right)
      (not (S.is_ended r.space || is_in_part space part spot))
      (not (goes_through space part spots || is_in_part space part next))
      (not (S.is_ended r.space))
      (not ((is_in_part space part next || goes_through space part spots) || is_in_part space part spot))
      (ended_once (S.is_ended r.space) (is_in_part space part spot) (is_in_part space part next) (goes_through space part spots))
      ∙ ap (λ (h : Bool). h && not ((is_in_part space part next || goes_through space part spots) || is_in_part space part spot))
      (sym (has_right-record S id r page right other held))
    where
      own : is_into S r.space id ≡ true
      own = cond-false (is_root id) (is_first_space r.space) (is_record_into (S.record_at id) r.space) other
          ∙ ap (λ (o : Option Record). is_record_into o r.space) held ∙ same_space_itself r.space

      among : same_space space r.space ≡ is_in_part space part spot
      among =
          sym (same_into S space r.space id own)
          ∙ sym (and-true (is_into S space id))
          ∙ ap (λ (t : Bool). is_into S space id && t) (sym (done.complete id r page held
          (and_parts (holds r.place page) (nat_lt r.parent.number id.number) reach).0))
          ∙ is_among_into S space part spot id page into at

      over : S'.is_ended r.space ≡ (S.is_ended r.space || is_in_part space part spot)
      over = done.ends r.space ∙ ap (λ (t : Bool). S.is_ended r.space || t) among

  end_takes : IsTaken S S' space part all_rights true
  end_takes = record {
    records = done.records;
    less = λ id page right h. less_within id.number id page right (omega arith) h;
    without_hits = λ id page frame above spot right through into at.
        has_right-over id page frame above spot right through into at
        ∙ ap (λ (t : Bool). has_right S id page right && not t)
        (sym (all_hit right (goes_through space part above || (true && is_in_part space part spot))));
  }

  -- the tree after an End shows the state after it
  pub shows_after_end : (T : PathTree) → Shows T S → Shows (path_after_end T space part) S'
  shows_after_end T shows = record {
    nodes = nodes_after S S' space part all_rights true end_takes T shows;
    ends = λ other. ap (λ (t : Bool). t || same_space space other) (shows.ends other) ∙ sym (done.ends other);
  }
