-- The bits of a number, one for each order.
use Rattle.std.proofs.Common.{◌≡◌, ℕ, ◌+◌, ◌*◌, ◌-◌, ◌/◌, ◌%◌, ◌^◌, ◌<◌, ◌≤◌, true, false, sym, ap, subst, shr-shr, ◌∙◌, arith, inl, inr, w64}
use Rattle.std.specs.Prelude.{◌⊎◌, ◌&&◌, Bool, nat_eq, nat_lt, if◌then◌else◌}
use Rattle.std.specs.Int.{bit_at, trailing_zeros}
use Rattle.std.specs.Int.RustNames.{bit_or}
use Rattle.std.proofs.lemmas.Bool.{cases_Bool, eq-eqb, eqb-true, lt-ltb, true≢false}
use Rattle.std.proofs.Math.Nat.{div-le_self}
use Rattle.std.proofs.lemmas.Nat.Bits.{bit_at-trailing_zeros, bit_at-zero, bit_at_above, bit_at_set_other, bit_at_set_same}

-- a bit is one of the number without those below it
pub behind_at : (n from k : ℕ) → from ≤ k → bit_at n k ≡ bit_at (n / 2 ^ from) (k - from)
behind_at n from k up =
    let split : k ≡ from + (k - from) = omega arith in
    ap (bit_at n) split ∙ sym (ap (λ x. x % 2) (shr-shr n from (k - from)))

-- a number below a power has no bit from there on
pub bit_below : (n k : ℕ) → n < 2 ^ 64 → bit_at n k ≡ 1 → k < 64
bit_below n k fits set = by (either k)
  where
    either : (k : ℕ) → (k < 64) ⊎ (64 ≤ k)
    either k = grind arith

    by : (k < 64) ⊎ (64 ≤ k) → k < 64
    by (inl below) = below
    by (inr above) = let none = bit_at_above n 64 k fits above in absurd (omega (arith, none, set))

-- one bit more is set
pub with_bit : (n order k : ℕ) → order < 64
    → nat_eq (bit_at (bit_or n (1 * 2 ^ order % 2 ^ 64)) k) 1 ≡ (if nat_lt order 64 && nat_eq order k then true else nat_eq (bit_at n k) 1)
with_bit n order k within =
    by (cases_Bool (nat_eq order k)) ∙ sym (ap (λ (b : Bool). if b && nat_eq order k then true else nat_eq (bit_at n k) 1) (lt-ltb order 64 within))
  where
    by : (nat_eq order k ≡ true) ⊎ (nat_eq order k ≡ false)
        → nat_eq (bit_at (bit_or n (1 * 2 ^ order % 2 ^ 64)) k) 1 ≡ (if nat_eq order k then true else nat_eq (bit_at n k) 1)
    by (inl same) =
        let set = bit_at_set_same w64 n order within in
        let here : bit_at (bit_or n (1 * 2 ^ order % 2 ^ 64)) k ≡ 1 = subst (λ i. bit_at (bit_or n (1 * 2 ^ order % 2 ^ 64)) i ≡ 1) (eqb-true order k same) set in
        eq-eqb _ 1 here ∙ sym (ap (λ (b : Bool). if b then true else nat_eq (bit_at n k) 1) same)
    by (inr other) =
        ap (λ b. nat_eq b 1) (bit_at_set_other w64 n order within k (λ same. true≢false (sym (eq-eqb order k (sym same)) ∙ other)))
        ∙ sym (ap (λ (b : Bool). if b then true else nat_eq (bit_at n k) 1) other)

pub behind_fits : (n from : ℕ) → n < 2 ^ 64 → n / 2 ^ from < 2 ^ 64
behind_fits n from fits = let less = div-le_self n (2 ^ from) in omega arith

-- where none is left, each bit lies below
pub none_behind : (n from k : ℕ) → n / 2 ^ from ≡ 0 → bit_at n k ≡ 1 → k < from
none_behind n from k none set = by (either from k)
  where
    either : (a b : ℕ) → (a ≤ b) ⊎ (b < a)
    either a b = grind arith

    by : (from ≤ k) ⊎ (k < from) → k < from
    by (inr below) = below
    by (inl up) =
        let clear : bit_at (n / 2 ^ from) (k - from) ≡ 0 = ap (λ m. bit_at m (k - from)) none ∙ bit_at-zero (k - from) in
        let is = behind_at n from k up in
        absurd (omega (arith, clear, is, set))

-- the least bit from one on
pub least_bit : (n from k : ℕ) → n < 2 ^ 64 → 0 < n / 2 ^ from → bit_at n k ≡ 1 → from ≤ k → from + trailing_zeros w64 (n / 2 ^ from) ≤ k
least_bit n from k fits some set up =
    let small : n / 2 ^ from < 2 ^ 64 = behind_fits n from fits in
    let lowest = bit_at-trailing_zeros w64 (n / 2 ^ from) some small in
    by (either (trailing_zeros w64 (n / 2 ^ from)) (k - from)) lowest.2
  where
    either : (a b : ℕ) → (a ≤ b) ⊎ (b < a)
    either a b = grind arith

    by : (trailing_zeros w64 (n / 2 ^ from) ≤ k - from) ⊎ (k - from < trailing_zeros w64 (n / 2 ^ from))
        → ((i : ℕ) → i < trailing_zeros w64 (n / 2 ^ from) → bit_at (n / 2 ^ from) i ≡ 0) → from + trailing_zeros w64 (n / 2 ^ from) ≤ k
    by (inl low) none = omega arith
    by (inr high) none =
        let clear = none (k - from) high in
        let is = behind_at n from k up in
        absurd (omega (arith, clear, is, set))

-- and it is set
pub behind_has : (n from : ℕ) → n < 2 ^ 64 → 0 < n / 2 ^ from → bit_at n (from + trailing_zeros w64 (n / 2 ^ from)) ≡ 1
behind_has n from fits some =
    let lowest = bit_at-trailing_zeros w64 (n / 2 ^ from) some (behind_fits n from fits) in
    sym (ap (λ x. x % 2) (shr-shr n from (trailing_zeros w64 (n / 2 ^ from)))) ∙ lowest.1
