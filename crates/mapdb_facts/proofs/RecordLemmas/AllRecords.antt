-- The records that facts hold, as a list that is gone through from its front.
use Rattle.std.proofs.Common.{◌≡◌, refl, sym, ap, ◌∙◌, List, [], ◌∷◌, zero, suc, inl, inr, arith}
use Rattle.std.specs.Prelude.{◌↔◌, None, All}
use Rattle.mapdb_facts.specs.declared.holding.Facts.{Facts}
use Rattle.mapdb_facts.specs.declared.operations.Record.{Record}
use Rattle.mapdb_facts.specs.Facts.{births, records_of_facts, state_of_facts}
use Rattle.mapdb_facts.specs.Kept.{names_in}
use Rattle.mapdb_facts.specs.Looking.{Holds}
use Rattle.mapdb_facts.specs.Merging.{IsNamed}
use Rattle.mapdb_facts.specs.Records.{IsAmong, behind}
use Rattle.mapdb_facts.proofs.RecordLemmas.Ascending.{found_listed, listed_found}
use Rattle.mapdb_facts.proofs.RecordLemmas.Listed.{births_state}

-- before the first one all are left
pub behind_none : (records : List Record) → behind None records ≡ records
behind_none [] = refl
behind_none (r ∷ rest) = ap (λ (rs : List Record). r ∷ rs) (behind_none rest)

-- they are the held ones
pub among_held : (facts : Facts) → IsNamed (state_of_facts facts) → (r : Record) → IsAmong r (records_of_facts facts) ↔ Holds (state_of_facts facts) r
among_held facts named r =
    let ops = births (state_of_facts facts) (names_in facts.records) in
    let same = births_state facts named r.id in (
      (λ k. sym same ∙ listed_found ops r k),
      λ h. (found_listed ops r.id r (same ∙ h)).0,
    )

-- what is true of each one in a list
pub all_from : {X : Type 0} → (P : X → Type 0) (xs : List X) → ((x : X) → IsAmong x xs → P x) → All P xs
all_from P [] each k d within = absurd (omega (arith, within))
all_from P (x ∷ xs) each zero d within = each x (inl refl)
all_from P (x ∷ xs) each (suc k) d within = all_from P xs (λ y h. each y (inr h)) k d (omega (arith, within))
