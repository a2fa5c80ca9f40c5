-- One place of a list is set, and others stay.
use Rattle.std.proofs.Common.{◌≡◌, ℕ, zero, suc, false, Some, refl, sym, ap, ◌∙◌, List, [], ◌∷◌}
use Rattle.std.proofs.lemmas.Bool.{eq-eqb, true≢false}
use Rattle.std.specs.Prelude.{◌==◌, ◌≢◌, None, slice_get, slice_set}

module _ {X : Type 0} where
  pub none_some : (x : X) → None ≡ Some x → ⊥
  none_some x e = cc

  pub set_here : (xs : List X) (i : ℕ) (x y : X) → slice_get xs i ≡ Some x → slice_get (slice_set xs i y) i ≡ Some y
  set_here [] i x y there = absurd (none_some x there)
  set_here (z ∷ xs) zero x y there = refl
  set_here (z ∷ xs) (suc i) x y there = set_here xs i x y there

  pub set_apart : (xs : List X) (i j : ℕ) (y : X) → i ≢ j → slice_get (slice_set xs i y) j ≡ slice_get xs j
  set_apart [] i j y apart = refl
  set_apart (z ∷ xs) zero zero y apart = absurd (apart refl)
  set_apart (z ∷ xs) zero (suc j) y apart = refl
  set_apart (z ∷ xs) (suc i) zero y apart = refl
  set_apart (z ∷ xs) (suc i) (suc j) y apart = set_apart xs i j y (λ e. apart (ap suc e))

  pub set_other : (xs : List X) (i j : ℕ) (y : X) → (i == j) ≡ false → slice_get (slice_set xs i y) j ≡ slice_get xs j
  set_other xs i j y apart = set_apart xs i j y (λ e. true≢false (sym (eq-eqb i j e) ∙ apart))

  pub set_nowhere : (xs : List X) (i j : ℕ) (y : X) → slice_get xs j ≡ None → slice_get (slice_set xs i y) j ≡ None
  set_nowhere [] i j y gone = gone
  set_nowhere (z ∷ xs) zero zero y gone = absurd (none_some z (sym gone))
  set_nowhere (z ∷ xs) zero (suc j) y gone = gone
  set_nowhere (z ∷ xs) (suc i) zero y gone = gone
  set_nowhere (z ∷ xs) (suc i) (suc j) y gone = set_nowhere xs i j y gone

  pub one_there : (xs : List X) (i : ℕ) (x y : X) → slice_get xs i ≡ Some x → slice_get xs i ≡ Some y → x ≡ y
  one_there xs i x y a b = same (sym a) b
    where
      same : Some x ≡ slice_get xs i → slice_get xs i ≡ Some y → x ≡ y
      same e f = cc
