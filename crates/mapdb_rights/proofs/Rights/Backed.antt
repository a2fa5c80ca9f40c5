-- A right is backed by the parent's, up to a frame.
use Rattle.std.proofs.Common.{◌≡◌, ℕ, zero, suc, ◌≤◌, true, false, Some, refl, sym, ap, ◌∙◌, arith, inl, inr}
use Rattle.std.specs.Prelude.{◌&&◌, nat_lt, not, Option, None}
use Rattle.std.proofs.lemmas.Bool.{and_parts, cond-true, cond-false, cases_Bool, false≢true}
use Rattle.mapdb_facts.specs.declared.names.RecordId.{RecordId}
use Rattle.mapdb_facts.specs.declared.operations.Record.{Record}
use Rattle.mapdb_fpage.specs.declared.right_sets.Right.{Right}
use Rattle.mapdb_facts.specs.Names.{is_root}
use Rattle.mapdb_fpage.specs.Place.{holds, is_page}
use Rattle.mapdb_facts.specs.State.{State}
use Rattle.mapdb_rights.specs.Right.{allows, has_right, reaches, source_page}
use Rattle.mapdb_rights.specs.Frame.{frame_at}
use Rattle.mapdb_rights.specs.PageRights.{lies_in, lies_in_record}
use Rattle.mapdb_rights.proofs.Rights.Steps.{has_right-root, has_right-record, has_right-none, frame_at-root, frame_at-record, earlier}

-- What stands behind a right of a record that is not the root.
pub record Backing (S : State) (id : RecordId) (page : ℕ) (right : Right) : Type 0 where
  pub r : Record
  pub held : S.record_at id ≡ Some r
  pub reach : reaches id r page ≡ true
  pub allowed : allows S id r page right ≡ true
  pub parent_has : has_right S r.parent (source_page r page) right ≡ true

backing_at : (S : State) (id : RecordId) (page : ℕ) (right : Right) (o : Option Record) → S.record_at id ≡ o → is_root id ≡ false → has_right S id page right ≡ true → Backing S id page right
backing_at S id page right None is other h = absurd (false≢true (sym (has_right-none S id page right other is) ∙ h))
backing_at S id page right (Some r) is other h =
    let all = and_parts (reaches id r page && allows S id r page right) (has_right S r.parent (source_page r page) right) (sym (has_right-record S id r page right other is) ∙ h) in
    let front = and_parts (reaches id r page) (allows S id r page right) all.0 in
    record { r = r; held = is; reach = front.0; allowed = front.1; parent_has = all.1 }

pub backing : (S : State) (id : RecordId) (page : ℕ) (right : Right) → is_root id ≡ false → has_right S id page right ≡ true → Backing S id page right
backing S id page right other h = backing_at S id page right (S.record_at id) refl other h

-- a right is had only where the page lies in the place
pub lies_in-right : (S : State) (id : RecordId) (page : ℕ) (right : Right) → has_right S id page right ≡ true → lies_in S id page ≡ true
lies_in-right S id page right h =
    elim (cases_Bool (is_root id)) [
      | inl top ↦
          cond-true (is_root id) (is_page page) (lies_in_record (S.record_at id) page) top
          ∙ (and_parts (is_page page) (not (S.is_cut id page right)) (sym (has_right-root S id page right top) ∙ h)).0
      | inr other ↦
          let b = backing S id page right other h in
          cond-false (is_root id) (is_page page) (lies_in_record (S.record_at id) page) other
          ∙ ap (λ o. lies_in_record o page) b.held
          ∙ (and_parts (holds b.r.place page) (nat_lt b.r.parent.number id.number) b.reach).0
    ]

abbrev Framed : State → RecordId → ℕ → Type 0
Framed S id page = (frame : ℕ) × (frame_at S id page ≡ Some frame)

framed_root : (S : State) (id : RecordId) (page : ℕ) (right : Right) → is_root id ≡ true → has_right S id page right ≡ true → Framed S id page
framed_root S id page right top h =
    (page, frame_at-root S id page top ∙ cond-true (is_page page) (Some page) None (and_parts (is_page page) (not (S.is_cut id page right)) (sym (has_right-root S id page right top) ∙ h)).0)

framed_record : (S : State) (id : RecordId) (page : ℕ) (right : Right) → is_root id ≡ false → (b : Backing S id page right) → Framed S b.r.parent (source_page b.r page) → Framed S id page
framed_record S id page right other b up =
    (up.0, frame_at-record S id b.r page other b.held ∙ cond-true (reaches id b.r page) (frame_at S b.r.parent (source_page b.r page)) None b.reach ∙ up.1)

framed_within : (n : ℕ) (S : State) (id : RecordId) (page : ℕ) (right : Right) → id.number ≤ n → has_right S id page right ≡ true → Framed S id page
framed_within zero S id page right below h =
    elim (cases_Bool (is_root id)) [
      | inl top ↦ framed_root S id page right top h
      | inr other ↦ let b = backing S id page right other h in let lt = earlier id b.r page b.reach in absurd (omega arith)
    ]
framed_within (suc n) S id page right below h =
    elim (cases_Bool (is_root id)) [
      | inl top ↦ framed_root S id page right top h
      | inr other ↦
          let b = backing S id page right other h in
          let lt = earlier id b.r page b.reach in
          framed_record S id page right other b (framed_within n S b.r.parent (source_page b.r page) right (omega arith) b.parent_has)
    ]

-- where a right is had, a frame is reached
pub frame_at-right : (S : State) (id : RecordId) (page : ℕ) (right : Right) → has_right S id page right ≡ true → Framed S id page
frame_at-right S id page right h = framed_within id.number S id page right (omega arith) h
