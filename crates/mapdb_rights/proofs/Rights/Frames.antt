-- A frame that is reached once stays: records are never replaced.
use Rattle.std.proofs.Common.{◌≡◌, ℕ, zero, suc, ◌<◌, ◌≤◌, true, false, refl, sym, ap, ◌∙◌, arith, inl, inr}
use Rattle.std.specs.Prelude.{Option, Some, None, if◌then◌else◌}
use Rattle.std.proofs.lemmas.Bool.{cases_Bool, cond-false, cond-true}
use Rattle.mapdb_facts.specs.Names.{is_root}
use Rattle.mapdb_facts.specs.State.{State, first_of, join}
use Rattle.mapdb_facts.specs.declared.names.RecordId.{RecordId}
use Rattle.mapdb_facts.specs.declared.operations.Record.{Record}
use Rattle.mapdb_rights.specs.Frame.{frame_at}
use Rattle.mapdb_rights.specs.Right.{reaches, source_page}
use Rattle.mapdb_rights.proofs.Rights.Steps.{earlier, frame_at-none, frame_at-record, frame_at-root}
use Rattle.mapdb_rights.specs.Caching.{FramesStay}

module _ (S T : State) where
  at_root : (id : RecordId) (page frame : ℕ) → is_root id ≡ true → frame_at S id page ≡ Some frame → frame_at (join S T) id page ≡ Some frame
  at_root id page frame top h = frame_at-root (join S T) id page top ∙ sym (frame_at-root S id page top) ∙ h

  none_some : (frame : ℕ) → None ≡ Some frame → ⊥
  none_some frame e = cc

  -- what stands behind a frame
  reached : (id : RecordId) (r : Record) (page frame : ℕ) → is_root id ≡ false → S.record_at id ≡ Some r → frame_at S id page ≡ Some frame
      → (reaches id r page ≡ true) × (frame_at S r.parent (source_page r page) ≡ Some frame)
  reached id r page frame other held h =
      let is : (if reaches id r page then frame_at S r.parent (source_page r page) else None) ≡ Some frame = sym (frame_at-record S id r page other held) ∙ h in
      elim (cases_Bool (reaches id r page)) [
        | inl reach ↦ (reach, sym (cond-true (reaches id r page) (frame_at S r.parent (source_page r page)) None reach) ∙ is)
        | inr out ↦ absurd (none_some frame (sym (cond-false (reaches id r page) (frame_at S r.parent (source_page r page)) None out) ∙ is))
      ]

  held_later : (id : RecordId) (r : Record) → S.record_at id ≡ Some r → (join S T).record_at id ≡ Some r
  held_later id r held = ap (λ o. first_of o (T.record_at id)) held

  one_up : (id : RecordId) (r : Record) (page frame : ℕ) → is_root id ≡ false → S.record_at id ≡ Some r → reaches id r page ≡ true
      → frame_at (join S T) r.parent (source_page r page) ≡ Some frame → frame_at (join S T) id page ≡ Some frame
  one_up id r page frame other held reach up =
      frame_at-record (join S T) id r page other (held_later id r held)
      ∙ cond-true (reaches id r page) (frame_at (join S T) r.parent (source_page r page)) None reach ∙ up

  stays_at : (n : ℕ) (id : RecordId) (page frame : ℕ) → id.number ≤ n → is_root id ≡ false → (o : Option Record) → S.record_at id ≡ o → frame_at S id page ≡ Some frame
      → ((q : RecordId) (s : ℕ) → q.number < id.number → frame_at S q s ≡ Some frame → frame_at (join S T) q s ≡ Some frame)
      → frame_at (join S T) id page ≡ Some frame
  stays_at n id page frame below other None is h up = absurd (none_some frame (sym (frame_at-none S id page other is) ∙ h))
  stays_at n id page frame below other (Some r) is h up =
      let b = reached id r page frame other is h in
      one_up id r page frame other is b.0 (up r.parent (source_page r page) (earlier id r page b.0) b.1)

  stays_within : (n : ℕ) (id : RecordId) (page frame : ℕ) → id.number ≤ n → frame_at S id page ≡ Some frame → frame_at (join S T) id page ≡ Some frame
  stays_within zero id page frame below h =
      elim (cases_Bool (is_root id)) [
        | inl top ↦ at_root id page frame top h
        | inr other ↦ stays_at zero id page frame below other (S.record_at id) refl h (λ q s less _. absurd (omega arith))
      ]
  stays_within (suc n) id page frame below h =
      elim (cases_Bool (is_root id)) [
        | inl top ↦ at_root id page frame top h
        | inr other ↦ stays_at (suc n) id page frame below other (S.record_at id) refl h (λ q s less up. stays_within n q s frame (omega arith) up)
      ]

pub frames_stay : FramesStay
frames_stay S T id page frame h = stays_within S T id.number id page frame (omega arith) h
