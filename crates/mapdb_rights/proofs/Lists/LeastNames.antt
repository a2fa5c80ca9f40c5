-- The least of names that are found in parts.
use Rattle.std.proofs.Common.{◌≡◌, Bool, true, false, refl, sym, ◌∙◌, arith, inl, inr}
use Rattle.std.specs.Prelude.{◌⊎◌, Option, None, Some, if◌then◌else◌}
use Rattle.std.proofs.lemmas.Bool.{cases_Bool, false≢true}
use Rattle.std.proofs.lemmas.Bool.Decides.{nat_tests}
use Rattle.mapdb_facts.proofs.RecordLemmas.Ascending.{before_trans}
use Rattle.mapdb_facts.specs.Names.{is_before}
use Rattle.mapdb_facts.specs.declared.names.RecordId.{RecordId}
use Rattle.mapdb_rights.specs.Among.{IsLeastOf, lesser}

not_before_both : (a b c : RecordId) → is_before a b ≡ false → is_before b c ≡ false → is_before a c ≡ false
not_before_both a b c x y = grind (arith, nat_tests)

module _ (Sound SoundB Sought SoughtA SoughtB : RecordId → Type 0) (after : Option RecordId)
    (up : (id : RecordId) → SoundB id → Sound id) (part : (id : RecordId) → Sought id → SoughtA id ⊎ SoughtB id) where
  of_two : (a b : RecordId) (t : Bool) → is_before b a ≡ t → IsLeastOf Sound SoughtA after (Some a) → IsLeastOf SoundB SoughtB after (Some b)
      → IsLeastOf Sound Sought after (if t then Some b else Some a)
  of_two a b true before p q = record {
    sound = up b q.sound;
    above = q.above;
    least = λ id sought above. elim (part id sought) [
      | inl first ↦ elim (cases_Bool (is_before id b)) [
        | inl less ↦ absurd (false≢true (sym (p.least id first above) ∙ before_trans id b a less before))
        | inr other ↦ other
      ]
      | inr second ↦ q.least id second above
    ];
  }
  of_two a b false before p q = record {
    sound = p.sound;
    above = p.above;
    least = λ id sought above. elim (part id sought) [
      | inl first ↦ p.least id first above
      | inr second ↦ not_before_both id b a (q.least id second above) before
    ];
  }

  pub least_of_both : (a b : Option RecordId) → IsLeastOf Sound SoughtA after a → IsLeastOf SoundB SoughtB after b → IsLeastOf Sound Sought after (lesser a b)
  least_of_both None None p q = λ id sought. elim (part id sought) [ inl first ↦ p id first | inr second ↦ q id second ]
  least_of_both None (Some b) p q = record {
    sound = up b q.sound;
    above = q.above;
    least = λ id sought above. elim (part id sought) [
      | inl first ↦ absurd (false≢true (sym (p id first) ∙ above))
      | inr second ↦ q.least id second above
    ];
  }
  least_of_both (Some a) None p q = record {
    sound = p.sound;
    above = p.above;
    least = λ id sought above. elim (part id sought) [
      | inl first ↦ p.least id first above
      | inr second ↦ absurd (false≢true (sym (q id second) ∙ above))
    ];
  }
  least_of_both (Some a) (Some b) p q = of_two a b (is_before b a) refl p q
