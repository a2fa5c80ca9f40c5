-- What is left to be settled where nothing is cached yet.
use Rattle.std.proofs.Common.{◌≡◌, ℕ, ◌<◌, true, false, [], List, refl, sym, subst, ◌∙◌, inl, inr}
use Rattle.std.specs.Prelude.{◌⊎◌, Option, Some, None}
use Rattle.std.proofs.lemmas.Bool.{cases_Bool, cond-false, ltb-true}
use Rattle.mapdb_fpage.specs.Bounds.{page_limit}
use Rattle.mapdb_fpage.specs.Place.{holds, is_page}
use Rattle.mapdb_fpage.specs.RightSets.{no_rights}
use Rattle.mapdb_facts.specs.Exact.{exact_id}
use Rattle.mapdb_facts.specs.Names.{is_root, root}
use Rattle.mapdb_facts.specs.State.{State, nothing}
use Rattle.mapdb_facts.specs.declared.names.RecordId.{RecordId}
use Rattle.mapdb_facts.specs.declared.operations.Record.{Record}
use Rattle.mapdb_lists.specs.Changes.{at_first, past_the_end, cached_in, change_at, changed}
use Rattle.mapdb_rights.proofs.Rights.Walk.{rights_at-none}
use Rattle.mapdb_rights.specs.Right.{source_page}
use Rattle.mapdb_rights.specs.declared.index.stale.Stale.{Stale}
use Rattle.mapdb_rights.specs.Caching.{IsSettled}
use Rattle.mapdb_rights.specs.Pending.{AreSettledBut, IsPending}
use Rattle.mapdb_rights.proofs.Settling.Ended.{empty_stands}
use Rattle.mapdb_rights.proofs.Rights.FromParents.{from_beyond, from_none, from_outside, from_powerless}

pub empty_other : (id : RecordId) (page : ℕ) → is_root id ≡ false → cached_in [] id page ≡ no_rights
empty_other id page other = empty_stands id page ∙ rights_at-none nothing id page other refl

module _ (S : State) (stack : List Stale)
    (whole_root : (page : ℕ) → page < page_limit → IsPending stack root page)
    (from_root : (id : RecordId) (r : Record) → S.record_at id ≡ Some r → r.parent ≡ root → (page : ℕ) → holds r.place page ≡ true → IsPending stack id page) where
  abbrev Left : RecordId → ℕ → Type 0
  Left id page = IsSettled S (cached_in []) id page ⊎ IsPending stack id page

  at_root : (id : RecordId) (page : ℕ) → is_root id ≡ true → Left id page
  at_root id page top =
      elim (cases_Bool (is_page page)) [
        | inl inside ↦ inr (subst (λ (o : RecordId). IsPending stack o page) (sym (exact_id id root top)) (whole_root page (ltb-true page page_limit inside)))
        | inr out ↦ inl ((λ i. (cond-false (is_page page) (changed (change_at [] id) (at_first id) page) past_the_end out i).rights) ∙ sym (from_beyond (cached_in []) S id page top out))
      ]

  at_held : (id : RecordId) (r : Record) (page : ℕ) → is_root id ≡ false → S.record_at id ≡ Some r → Left id page
  at_held id r page other held =
      elim (cases_Bool (holds r.place page)) [
        | inr out ↦ inl (empty_other id page other ∙ sym (from_outside (cached_in []) S id page r other held out))
        | inl inside ↦ elim (cases_Bool (is_root r.parent)) [
          | inl top ↦ inr (from_root id r held (exact_id r.parent root top) page inside)
          | inr below ↦ inl (empty_other id page other ∙ sym (from_powerless (cached_in []) S id page r other held (empty_other r.parent (source_page r page) below)))
        ]
      ]

  at_other : (id : RecordId) (page : ℕ) → is_root id ≡ false → (o : Option Record) → S.record_at id ≡ o → Left id page
  at_other id page other None none = inl (empty_other id page other ∙ sym (from_none (cached_in []) S id page other none))
  at_other id page other (Some r) held = at_held id r page other held

  pub left_from_nothing : AreSettledBut S (cached_in []) stack
  left_from_nothing id page =
      elim (cases_Bool (is_root id)) [
        | inl top ↦ at_root id page top
        | inr other ↦ at_other id page other (S.record_at id) refl
      ]
