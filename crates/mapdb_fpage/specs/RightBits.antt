-- The bits of sets of rights. What is said of all numbers below 8 is tried at each of them.
use Rattle.std.proofs.Common.{◌≡◌, ℕ, zero, suc, ◌<◌, ◌+◌, Bool, true, false, nat_eq, refl, sym, ap, subst, arith, inl, inr}
use Rattle.std.specs.Prelude.{◌&&◌, ◌⊎◌}
use Rattle.std.specs.Bool.{beq}
use Rattle.std.specs.Cmp.{IsEquivalence}
use Rattle.std.proofs.lemmas.Bool.{and_from, and_parts, eqb-true, false≢true}
use Rattle.mapdb_fpage.specs.RightSets.{bits_of, same_rights, low_rights}
use Rattle.mapdb_fpage.specs.declared.right_sets.Rights.{Rights}

-- ---- equal sets

pub beq_itself : (a : Bool) → beq a a ≡ true
beq_itself true = refl
beq_itself false = refl

beq_back : (a b : Bool) → beq a b ≡ beq b a
beq_back true true = refl
beq_back true false = refl
beq_back false true = refl
beq_back false false = refl

pub exact_bool : (a b : Bool) → beq a b ≡ true → a ≡ b
exact_bool true true h = refl
exact_bool true false h = absurd (false≢true h)
exact_bool false true h = absurd (false≢true h)
exact_bool false false h = refl

pub same_rights_itself : (a : Rights) → same_rights a a ≡ true
same_rights_itself a = and_from (beq a.read a.read) _ (beq_itself a.read) (and_from (beq a.write a.write) (beq a.execute a.execute) (beq_itself a.write) (beq_itself a.execute))

-- sets that are the same are equal
pub exact_rights : (a b : Rights) → same_rights a b ≡ true → a ≡ b
exact_rights a b h =
    let front = and_parts (beq a.read b.read) (beq a.write b.write && beq a.execute b.execute) h in
    let back = and_parts (beq a.write b.write) (beq a.execute b.execute) front.1 in
    λ i. record { read = exact_bool a.read b.read front.0 i; write = exact_bool a.write b.write back.0 i; execute = exact_bool a.execute b.execute back.1 i }

pub same_equivalence : IsEquivalence same_rights
same_equivalence = record {
  refl = same_rights_itself;
  symm = λ a b. λ i. beq_back a.read b.read i && (beq_back a.write b.write i && beq_back a.execute b.execute i);
  congr = λ a b c h. ap (λ (x : Rights). same_rights x c) (exact_rights a b h);
}

-- ---- numbers below 8

-- each number below this one passes the test
abbrev pub all_below : ℕ → (ℕ → Bool) → Bool
all_below zero test = true
all_below (suc n) test = test n && all_below n test

passes : (n : ℕ) (test : ℕ → Bool) → all_below n test ≡ true → (k : ℕ) → k < n → test k ≡ true
passes zero test all k below = let no : ⊥ = omega (arith, below) in absurd no
passes (suc n) test all k below =
    let parts = and_parts (test n) (all_below n test) all in
    elim (last_or_less k n (omega (arith, below))) [
      | inl last ↦ subst (λ q. test q ≡ true) (sym last) parts.0
      | inr less ↦ passes n test parts.1 k less
    ]
  where
    last_or_less : (k n : ℕ) → k < n + 1 → (k ≡ n) ⊎ (k < n)
    last_or_less k n below = grind (arith, below)

pub each_passes : (test : ℕ → Bool) → all_below 8 test ≡ true → (a : ℕ) → a < 8 → test a ≡ true
each_passes test all a below = passes 8 test all a below

pub pairs_pass : (test : ℕ → ℕ → Bool) → all_below 8 (λ a. all_below 8 (test a)) ≡ true → (a b : ℕ) → a < 8 → b < 8 → test a b ≡ true
pairs_pass test all a b below within = passes 8 (test a) (passes 8 (λ a. all_below 8 (test a)) all a below) b within

-- the bits of a set are those that it stands for
pub bits_come_back : (bits : ℕ) → bits < 8 → bits_of (low_rights bits) ≡ bits
bits_come_back bits below = eqb-true (bits_of (low_rights bits)) bits (each_passes (λ b. nat_eq (bits_of (low_rights b)) b) refl bits below)

-- an operation on bits whose sets are those of an operation on sets
pub sets_agree : (on_bits : ℕ → ℕ → ℕ) (on_sets : Rights → Rights → Rights)
    → all_below 8 (λ a. all_below 8 (λ b. same_rights (low_rights (on_bits a b)) (on_sets (low_rights a) (low_rights b)))) ≡ true
    → (a b : ℕ) → a < 8 → b < 8 → low_rights (on_bits a b) ≡ on_sets (low_rights a) (low_rights b)
sets_agree on_bits on_sets all a b below within =
    exact_rights (low_rights (on_bits a b)) (on_sets (low_rights a) (low_rights b))
    (pairs_pass (λ a b. same_rights (low_rights (on_bits a b)) (on_sets (low_rights a) (low_rights b))) all a b below within)
