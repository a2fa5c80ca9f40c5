-- What the calls of a byte's bits answer.
use Rattle.std.specs.Prelude.{ℕ, not, IsTrue, ◌↔◌, nat_eq, bit_or}
use Rattle.std.proofs.lemmas.Bool.{eqb-true, eq-eqb, true≢false, not-true, false_from_ne_true}
use Rattle.std.proofs.Common.{sym, ◌∙◌, ap}
use Rattle.mapdb_join.specs.Atoms.{Includes, HasNone}
use Rattle.mapdb_join.specs.Bits.{has_bit}
use Rattle.mapdb_join.specs.Lawful.Bits.{includes_or, or_includes, none_zero, zero_none}

-- a byte that takes no new bit from another covers it
pub covers_bits : (a b : ℕ) → IsTrue (nat_eq (bit_or a b) a) ↔ Includes has_bit a b
covers_bits a b = (λ h. includes_or a b (eqb-true _ _ h), λ h. eq-eqb _ _ (or_includes a b h))

-- a byte that changes gets a bit that it lacked
pub adds_bits : (a b : ℕ) → IsTrue (not (nat_eq (bit_or a b) a)) ↔ (Includes has_bit a b → ⊥)
adds_bits a b =
    (λ h i. absurd (true≢false (sym (eq-eqb _ _ (or_includes a b i)) ∙ not-true _ h)), λ h. ap not (false_from_ne_true (nat_eq (bit_or a b) a) (λ e. h (includes_or a b (eqb-true _ _ e)))))

-- zero has no bit
pub none_bits : (a : ℕ) → IsTrue (nat_eq a 0) ↔ HasNone has_bit a
none_bits a = (λ h. zero_none a (eqb-true _ _ h), λ h. eq-eqb _ _ (none_zero a h))
