-- An Unmap of the tree shows an Unmap of the state.
use Rattle.std.proofs.Common.{◌≡◌, subst, ℕ, Bool, true, false, Some, refl, sym, ap, ◌∙◌, inl, inr, List, [], ◌∷◌}
use Rattle.std.specs.Prelude.{◌&&◌, ◌||◌, not, Option, None}
use Rattle.std.proofs.lemmas.Bool.{cond-true, cond-false, cases_Bool, false≢true}
use Rattle.mapdb_fpage.proofs.Booleans.{same_test}
use Rattle.mapdb_fpage.specs.Place.{Place, holds, is_page}
use Rattle.mapdb_fpage.specs.RightSets.{includes}
use Rattle.mapdb_fpage.specs.declared.right_sets.Right.{Right}
use Rattle.mapdb_fpage.specs.declared.right_sets.Rights.{Rights}
use Rattle.mapdb_facts.specs.Exact.{exact_space}
use Rattle.mapdb_facts.specs.Names.{first_space, is_first_space, is_root, same_space}
use Rattle.mapdb_facts.proofs.Lists.SameNames.{same_space_itself}
use Rattle.mapdb_facts.specs.State.{State}
use Rattle.mapdb_facts.specs.declared.names.RecordId.{RecordId}
use Rattle.mapdb_facts.specs.declared.names.Space.{Space}
use Rattle.mapdb_facts.specs.declared.operations.Record.{Record}
use Rattle.mapdb_rights.proofs.Rights.Steps.{frame_at-record, frame_at-root, has_right-record, has_right-root}
use Rattle.mapdb_rights.specs.Frame.{frame_at}
use Rattle.mapdb_rights.specs.PageRights.{is_into, is_record_into}
use Rattle.mapdb_rights.specs.Right.{has_right, reaches, source_page}
use Rattle.mapdb_sequential.proofs.Trees.PathTrees.{goes_through}
use Rattle.mapdb_sequential.proofs.Trees.Showing.{ComesThrough}
use Rattle.mapdb_sequential.proofs.Lists.StateSteps.{IsUnmappedState, is_hit}
use Rattle.mapdb_tree.specs.Tree.{is_in_part}
use Rattle.mapdb_tree.specs.declared.nodes.Page.{Page}

-- where a record's page comes through pages to a frame, that is its frame
pub frame_at-through : (S : State) (id : RecordId) (page frame : ℕ) (above : List Page) → ComesThrough S id page frame above
    → frame_at S id page ≡ Some frame
frame_at-through S id page frame [] (top, inside, same) = frame_at-root S id page top ∙ cond-true (is_page page) (Some page) None inside
    ∙ ap Some (sym same)
frame_at-through S id page frame (spot ∷ spots) (other, r, held, reach, _, _, _, up) =
    frame_at-record S id r page other held
    ∙ cond-true (reaches id r page) (frame_at S r.parent (source_page r page)) None reach
    ∙ frame_at-through S r.parent (source_page r page) frame spots up

-- taking at the link and above it, in one
taken_once : (c i m g f k : Bool) → (not (c || (i && (m || (f && k)))) && not (i && (g || (f && m)))) ≡ (not c && not (i && ((m || g) || (f && k))))
taken_once true i m g f k = refl
taken_once false false m g f k = refl
taken_once false true true g f k = refl
taken_once false true false g false k = refl
taken_once false true false true true true = refl
taken_once false true false false true true = refl
taken_once false true false g true false = refl

regrouped : (r n e h a b c d : Bool) → (a && b) ≡ (c && d) → ((r && ((n && a) && e)) && (h && b)) ≡ (((r && ((n && c) && e)) && h) && d)
regrouped false n e h a b c d same = refl
regrouped true false e h a b c d same = refl
regrouped true true e h false b false d same = refl
regrouped true true true true true b true d same = same
regrouped true true true true true b false d same = same
regrouped true true true true false b true d same = same
regrouped true true true false true b true d same = refl
regrouped true true true false true b false d same = refl
regrouped true true true false false b true d same = refl
regrouped true true false h true b true d same = refl
regrouped true true false h true b false d same = refl
regrouped true true false h false b true d same = refl

-- the space that a record is into is one
pub same_into : (S : State) (space other : Space) (id : RecordId) → is_into S other id ≡ true → is_into S space id ≡ same_space space other
same_into S space other id into = elim (cases_Bool (is_root id)) [
  | inl top ↦
      let first : is_first_space other ≡ true = sym (cond-true (is_root id) (is_first_space other) (is_record_into (S.record_at id) other) top)
      ∙ into in
      cond-true (is_root id) (is_first_space space) (is_record_into (S.record_at id) space) top
      ∙ ap (λ (o : Space). same_space space o) (sym (exact_space other first_space first))
  | inr below ↦
      let here : is_record_into (S.record_at id) other ≡ true =
      sym (cond-false (is_root id) (is_first_space other) (is_record_into (S.record_at id) other) below) ∙ into in
      cond-false (is_root id) (is_first_space space) (is_record_into (S.record_at id) space) below ∙ of_record (S.record_at id) here
]
  where
    same_at : (a b : Space) → a ≡ b → same_space a b ≡ true
    same_at a b e = subst (λ (x : Space). same_space a x ≡ true) e (same_space_itself a)

    turned : (a b c : Space) → a ≡ b → same_space a c ≡ same_space c b
    turned a b c e = same_test (same_space a c) (same_space c b) (λ h. same_at c b (sym (exact_space a c h) ∙ e)) (λ h. same_at a c (e ∙ sym (exact_space c b h)))

    of_record : (o : Option Record) → is_record_into o other ≡ true → is_record_into o space ≡ same_space space other
    of_record None h = absurd (false≢true h)
    of_record (Some r) h = turned r.space other space (exact_space r.space other h)

pub is_among_into : (S : State) (space : Space) (part : Place) (spot : Page) (id : RecordId) (page : ℕ) → is_into S spot.space id ≡ true
    → spot.number ≡ page → (is_into S space id && holds part page) ≡ is_in_part space part spot
is_among_into S space part spot id page into same =
    (λ i. same_into S space spot.space id into i && holds part (sym same i))

module _ (S S' : State) (space : Space) (part : Place) (rights : Rights) (flush : Bool) (done : IsUnmappedState S S' space part rights flush) where
  -- an Unmap takes from a record at a page what it takes anywhere on the way
  pub has_right-unmapped : (id : RecordId) (page frame : ℕ) (above : List Page) (spot : Page) (right : Right) → ComesThrough S id page frame above
      → is_into S spot.space id ≡ true → spot.number ≡ page → has_right S' id page right
      ≡ (has_right S id page right && not (is_hit rights right (goes_through space part above || (flush && is_in_part space part spot))))
  has_right-unmapped id page frame [] spot right (top, inside, same) into at =
      has_right-root S' id page right top
      ∙ ap (λ (c : Bool). is_page page && not c) (done.at_root id page right top)
      ∙ ap (λ (t : Bool). is_page page && not (S.is_cut id page right || is_hit rights right (flush && t))) first
      ∙ apart (is_page page) (S.is_cut id page right) (is_hit rights right (flush && is_in_part space part spot))
      ∙ ap (λ (h : Bool). h && not (is_hit rights right (flush && is_in_part space part spot))) (sym (has_right-root S id page right top))
    where
      apart : (p c t : Bool) → (p && not (c || t)) ≡ ((p && not c) && not t)
      apart false c t = refl
      apart true true t = refl
      apart true false t = refl

      first : (is_first_space space && holds part page) ≡ is_in_part space part spot
      first =
          ap (λ (t : Bool). t && holds part page) (sym (cond-true (is_root id) (is_first_space space) (is_record_into (S.record_at id) space) top))
          ∙ is_among_into S space part spot id page into at
  has_right-unmapped id page frame (next ∷ spots) spot right (other, r, held, reach, next_page, next_into, next_lies, up) into at =
      let above_it : has_right S' r.parent (source_page r page) right
      ≡ (has_right S r.parent (source_page r page) right && not
      (is_hit rights right (goes_through space part spots || (flush && is_in_part space part next)))) =
      has_right-unmapped r.parent (source_page r page) frame spots next right up next_into next_page in
      has_right-record S' id r page right other (done.records id ∙ held)
      ∙ (λ i. reaches id r page && (includes r.rights right && not (taken i) && not (done.ends r.space i)) && above_it i)
      ∙ regrouped (reaches id r page) (includes r.rights right) (not (S.is_ended r.space)) (has_right S r.parent (source_page r page) right)
      (not (S.is_cut id page right || is_hit rights right (is_in_part space part next || (flush && is_in_part space part spot))))
      (not (is_hit rights right (goes_through space part spots || (flush && is_in_part space part next))))
      (not (S.is_cut id page right))
      (not (is_hit rights right ((is_in_part space part next || goes_through space part spots) || (flush && is_in_part space part spot))))
      (taken_once (S.is_cut id page right) (includes rights right) (is_in_part space part next) (goes_through space part spots) flush
      (is_in_part space part spot))
      ∙ ap (λ (h : Bool). h && not (is_hit rights right ((is_in_part space part next || goes_through space part spots)
      || (flush && is_in_part space part spot)))) (sym (has_right-record S id r page right other held))
    where
      taken : S'.is_cut id page right ≡ (S.is_cut id page right || is_hit rights right
          (is_in_part space part next || (flush && is_in_part space part spot)))
      taken =
          done.at_record id r page right other held reach next_lies
          ∙ (λ i. S.is_cut id page right || is_hit rights right
          (is_among_into S space part next r.parent (source_page r page) next_into next_page i
          || (flush && is_among_into S space part spot id page into at i)))
