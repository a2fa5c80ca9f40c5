-- The bits of a byte are lawful.
use Rattle.std.specs.Prelude.{◌≡◌, ℕ, ◌<◌, ◌^◌, max, Bool, true, false, ◌||◌, nat_eq, bit_or}
use Rattle.std.specs.List.{Contains, range_with_len}
use Rattle.std.proofs.Common.{sym, ◌∙◌, ap, arith, zero, suc, inl, inr, lit<, zero-add}
use Rattle.std.proofs.lemmas.Bool.{eqb-true, or_right, cases_lt}
use Rattle.std.proofs.Math.Nat.{pow-suc}
use Rattle.std.proofs.lemmas.List.FromFn.{length-range_with_len, get_or-range_with_len}
use Rattle.std.proofs.lemmas.Bool.Decides.{nat_tests}
use Rattle.std.proofs.lemmas.Nat.Bits.{bit_at-lt, bit_at_or, same_from_bits, bit_at-zero, bit_at_above}
use Rattle.std.proofs.lemmas.Nat.{or_lt}
use Rattle.mapdb_join.specs.Atoms.{Includes, IsUnion, IsExclusion, HasNone, Clashes}
use Rattle.mapdb_join.specs.Bits.{has_bit, IsByte}

either_bit : (x y : ℕ) → x < 2 → y < 2 → nat_eq (max x y) 1 ≡ (nat_eq x 1 || nat_eq y 1)
either_bit x y p q = grind (arith, nat_tests)

-- the bits of `or` are those of both
pub has_or : (a b : ℕ) → IsUnion has_bit a b (bit_or a b)
has_or a b i =
    ap (λ n. nat_eq n 1) (bit_at_or a b i) ∙ either_bit _ _ (bit_at-lt a i) (bit_at-lt b i)

-- what `or` does not change covers
pub includes_or : (a b : ℕ) → bit_or a b ≡ a → Includes has_bit a b
includes_or a b e i h =
    ap (λ n. has_bit n i) (sym e) ∙ has_or a b i ∙ or_right (has_bit a i) (has_bit b i) h

larger_bit : (x y : ℕ) → x < 2 → y < 2 → (nat_eq y 1 ≡ true → nat_eq x 1 ≡ true) → max x y ≡ x
larger_bit x y p q h = grind (arith, nat_tests)

-- what covers is not changed by `or`
pub or_includes : (a b : ℕ) → Includes has_bit a b → bit_or a b ≡ a
or_includes a b h =
    same_from_bits _ _ (λ i. bit_at_or a b i ∙ larger_bit _ _ (bit_at-lt a i) (bit_at-lt b i) (h i))

no_bit : (x : ℕ) → x < 2 → nat_eq x 1 ≡ false → x ≡ 0
no_bit x p h = grind (arith, nat_tests)

-- without bits a number is zero
pub none_zero : (a : ℕ) → HasNone has_bit a → a ≡ 0
none_zero a h = same_from_bits a 0 (λ i. no_bit _ (bit_at-lt a i) (h i) ∙ sym (bit_at-zero i))

-- zero has no bit
pub zero_none : (a : ℕ) → a ≡ 0 → HasNone has_bit a
zero_none a e i = ap (λ n. has_bit n i) e ∙ ap (λ n. nat_eq n 1) (bit_at-zero i)

-- where nothing excludes anything
pub no_exclusion : {S A : Type 0} (has : S → A → Bool) → IsExclusion has (λ _ _. ⊥)
no_exclusion has = record { symmetric = λ _ _ h. h; different = λ _ h. h; sound = λ _ _ _ _ _ h. h }

below_pow : (n : ℕ) → n < 2 ^ n
below_pow zero = lit< tt
below_pow (suc n) = omega (arith, below_pow n, pow-suc 2 n)

low_bit : (a i : ℕ) → has_bit a i ≡ true → i < a
low_bit a i h =
    elim (cases_lt i a) [ inl p ↦ p | inr p ↦ absurd (let e = sym (bit_at_above a a i (below_pow a) p) ∙ eqb-true _ _ h in cc) ]

-- each bit of a number is below it
pub finite_bits : (a i : ℕ) → has_bit a i ≡ true → Contains (range_with_len 0 a) i
finite_bits a i h =
    (i, rw length-range_with_len (low_bit a i h), get_or-range_with_len 0 a i i (low_bit a i h) ∙ zero-add i)

-- two bytes have a union, and it is a byte
pub joined_bits : (a b : ℕ) → IsByte a → IsByte b → (Clashes has_bit (λ _ _. ⊥) a b → ⊥) →
    (c : ℕ) × IsByte c × IsUnion has_bit a b c
joined_bits a b p q h = (bit_or a b, or_lt 8 a b p q, has_or a b)
