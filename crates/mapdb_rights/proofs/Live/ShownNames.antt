-- One name of a place after the other is looked at: those that are left out have no right at the page.
use Rattle.std.proofs.Common.{◌≡◌, ℕ, true, false, sym, ap, ◌∙◌, inl, inr}
use Rattle.std.specs.Prelude.{Option, None, Some}
use Rattle.std.proofs.lemmas.Bool.{cases_Bool, false≢true, true≢false}
use Rattle.mapdb_facts.proofs.RecordLemmas.Ascending.{before_else, after_later}
use Rattle.mapdb_facts.proofs.Lists.SameNames.{same_id_true}
use Rattle.mapdb_facts.specs.Names.{is_after, same_id}
use Rattle.mapdb_facts.specs.State.{State}
use Rattle.mapdb_facts.specs.declared.names.RecordId.{RecordId}
use Rattle.mapdb_facts.specs.declared.names.Space.{Space}
use Rattle.mapdb_lists.specs.declared.places.Listed.{Listed}
use Rattle.mapdb_lists.specs.declared.places.Places.{Places}
use Rattle.mapdb_rights.specs.Among.{IsLeastName, IsLeastOf, IsShown, IsShownAt, StandsAt, is_shown}

module _ (set : Places) (S : State) (space : Space) (page : ℕ) (place : Listed) (after : Option RecordId) where
  -- those that are sought come behind the name
  pub record Further (from : Option RecordId) : Type 0 where
    pub further : (id : RecordId) → IsShownAt set S space page place id → is_after after id ≡ true → is_after from id ≡ true
    pub within : (id : RecordId) → is_after from id ≡ true → is_after after id ≡ true

  pub further_next : (from : Option RecordId) (name : RecordId) → IsLeastName (StandsAt set place) (StandsAt set place) from name → is_shown S space page name ≡ false
      → Further from → Further (Some name)
  further_next from name next miss h = record {
    further = λ id shown above. before_else id name (next.least id shown.0 (h.further id shown above)) (elim (cases_Bool (same_id name id)) [
      | inl same ↦ absurd (true≢false (sym shown.1 ∙ ap (is_shown S space page) (sym (same_id_true name id same)) ∙ miss))
      | inr other ↦ other
    ]);
    within = λ id behind. h.within id (after_later from name id next.above behind);
  }

  pub shown_here : (from : Option RecordId) (name : RecordId) → IsLeastName (StandsAt set place) (StandsAt set place) from name → is_shown S space page name ≡ true
      → Further from → IsLeastOf (IsShown S space page) (IsShownAt set S space page place) after (Some name)
  shown_here from name next hit h = record {
    sound = hit;
    above = h.within name next.above;
    least = λ id shown above. next.least id shown.0 (h.further id shown above);
  }

  pub none_shown : (from : Option RecordId) → IsLeastOf (StandsAt set place) (StandsAt set place) from None
      → Further from → IsLeastOf (IsShown S space page) (IsShownAt set S space page place) after None
  none_shown from none h id shown =
      elim (cases_Bool (is_after after id)) [
        | inl above ↦ absurd (false≢true (sym (none id shown.0) ∙ h.further id shown above))
        | inr other ↦ other
      ]
