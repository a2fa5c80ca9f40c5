-- What the end of a space leaves to be settled, and what no facts come to.
use Rattle.std.proofs.Common.{◌≡◌, ℕ, Bool, true, false, [], refl, sym, ap, ◌∙◌, inl, inr}
use Rattle.std.specs.Prelude.{not, ◌||◌, Some}
use Rattle.std.proofs.lemmas.Bool.{cases_Bool, cond-false, cond-true, false≢true}
use Rattle.mapdb_fpage.specs.Place.{holds, is_page}
use Rattle.mapdb_fpage.specs.RightSets.{all_rights, is_empty, no_rights, rights_where}
use Rattle.mapdb_fpage.specs.declared.right_sets.Right.{Right}
use Rattle.mapdb_fpage.specs.declared.right_sets.Right.TheVariants.{Read, Write, Execute}
use Rattle.mapdb_facts.specs.Names.{is_root}
use Rattle.mapdb_facts.specs.State.{State, nothing}
use Rattle.mapdb_facts.specs.WellFormed.{is_number}
use Rattle.mapdb_facts.specs.declared.names.RecordId.{RecordId}
use Rattle.mapdb_facts.specs.declared.operations.Record.{Record}
use Rattle.mapdb_lists.specs.Changes.{at_first, past_the_end, cached_in, change_at, changed}
use Rattle.mapdb_lists.proofs.ChangeLemmas.LastChanges.{changed-none}
use Rattle.mapdb_rights.proofs.Rights.Backed.{lies_in-right}
use Rattle.mapdb_rights.proofs.Rights.Walk.{rights_at-beyond, rights_at-none, rights_at-root}
use Rattle.mapdb_rights.specs.PageRights.{lies_in_record}
use Rattle.mapdb_rights.specs.Right.{has_right, rights_at}
use Rattle.mapdb_rights.specs.Caching.{AreRights}

pub some_right : (f : Right → Bool) → is_empty (rights_where f) ≡ false → (right : Right) × (f right ≡ true)
some_right f some =
    elim (cases_Bool (f Read)) [
      | inl h ↦ (Read, h)
      | inr no_read ↦ elim (cases_Bool (f Write)) [
        | inl h ↦ (Write, h)
        | inr no_write ↦ elim (cases_Bool (f Execute)) [
          | inl h ↦ (Execute, h)
          | inr no_execute ↦ absurd (false≢true (sym some ∙ (λ i. not (no_read i || no_write i || no_execute i))))
        ]
      ]
    ]

-- a record has rights in its place alone
pub rights_in_place : (S : State) (id : RecordId) (r : Record) (page : ℕ) → is_root id ≡ false → S.record_at id ≡ Some r → is_empty (rights_at S id page) ≡ false → holds r.place page ≡ true
rights_in_place S id r page other held some =
    let one = some_right (has_right S id page) some in
    sym (cond-false (is_root id) (is_page page) (lies_in_record (S.record_at id) page) other ∙ ap (λ o. lies_in_record o page) held)
    ∙ lies_in-right S id page one.0 one.1

-- the name of a record is not the root's
pub numbered_is_other : (id : RecordId) → is_number id.number ≡ true → is_root id ≡ false
numbered_is_other id h = grind (Rattle.std.proofs.Common.arith, Rattle.std.proofs.lemmas.Grind.common_steps)

empty_root : (id : RecordId) (page : ℕ) → is_root id ≡ true → is_page page ≡ true → (at_first id).rights ≡ rights_at nothing id page
empty_root id page top inside = cond-true (is_root id) all_rights no_rights top ∙ sym (rights_at-root nothing id page top inside)

-- no changes stand for no facts
pub empty_stands : AreRights nothing (cached_in [])
empty_stands id page =
    elim (cases_Bool (is_page page)) [
      | inl inside ↦
          (λ i. (cond-true (is_page page) (changed (change_at [] id) (at_first id) page) past_the_end inside i).rights)
          ∙ (λ i. (changed-none (change_at [] id) (at_first id) page (λ q _. refl) i).rights)
          ∙ elim (cases_Bool (is_root id)) [
            | inl top ↦ empty_root id page top inside
            | inr other ↦ cond-false (is_root id) all_rights no_rights other ∙ sym (rights_at-none nothing id page other refl)
          ]
      | inr out ↦
          (λ i. (cond-false (is_page page) (changed (change_at [] id) (at_first id) page) past_the_end out i).rights)
          ∙ elim (cases_Bool (is_root id)) [
            | inl top ↦ sym (rights_at-beyond nothing id page top out)
            | inr other ↦ sym (rights_at-none nothing id page other refl)
          ]
    ]
