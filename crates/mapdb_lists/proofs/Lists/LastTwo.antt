-- Taking out one of the last two of a list.
use Rattle.std.proofs.Common.{◌≡◌, ℕ, zero, suc, ◌+◌, ◌-◌, ◌<◌, ◌≤◌, List, [], ◌∷◌, length, take, refl, sym, ap, ◌∙◌, arith}
use Rattle.std.specs.Prelude.{get_or, slice_set}
use Rattle.std.specs.List.{remove, swap_remove}

-- the last one takes the place of one of the last two: no other one moves
pub swapped_out : {X : Type 0} (xs : List X) (i : ℕ) (d : X) → i < length xs → length xs ≤ i + 2 → swap_remove xs i d ≡ remove xs i
swapped_out [] i d inside two = absurd (omega (arith, inside))
swapped_out (x ∷ []) zero d inside two = refl
swapped_out (x ∷ []) (suc i) d inside two = absurd (omega (arith, inside))
swapped_out (x ∷ y ∷ []) zero d inside two = refl
swapped_out (x ∷ y ∷ z ∷ zs) zero d inside two = absurd (omega (arith, two))
swapped_out (x ∷ y ∷ ys) (suc i) d inside two =
    let all : length (x ∷ y ∷ ys) - 1 ≡ suc (length ys) = omega arith in
    let rest : length (y ∷ ys) - 1 ≡ length ys = omega arith in
    ap (λ n. take n (slice_set (x ∷ y ∷ ys) (suc i) (get_or (x ∷ y ∷ ys) n d))) all
    ∙ ap (λ tail. x ∷ tail)
    (sym (ap (λ n. take n (slice_set (y ∷ ys) i (get_or (y ∷ ys) n d))) rest)
    ∙ swapped_out (y ∷ ys) i d (omega (arith, inside)) (omega (arith, two)))
