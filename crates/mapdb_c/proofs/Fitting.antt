-- A list that is written place by place, and what is told of it.
use Rattle.std.proofs.Common.{◌≡◌, refl, sym, ap, inl, inr, ℕ, suc, zero, ◌≤◌, ◌<◌, ◌+◌, List, [], ◌∷◌, ◌++◌, drop, take, length, map, set, arith, get_or}
use Rattle.std.proofs.lemmas.List.{length-map}
use Rattle.mapdb_c.specs.Filling.{FitsArray}
use Rattle.mapdb_c.specs.declared.statuses.Status.TheVariants as status

-- one place more is written
pub written_more :
    (X Y : Type 0) (f : X → Y) (xs : List X) (old : List Y) (i : ℕ) (d : X) → i < length xs → length xs ≤ length old
    → set (map f (take i xs) ++ drop i old) i (f (get_or xs i d)) ≡ map f (take (suc i) xs) ++ drop (suc i) old
written_more X Y f [] old i d low fits = absurd (omega arith)
written_more X Y f (x ∷ xs) [] i d low fits = absurd (omega arith)
written_more X Y f (x ∷ xs) (y ∷ old) zero d low fits = refl
written_more X Y f (x ∷ xs) (y ∷ old) (suc i) d low fits =
    ap (λ (ys : List Y). f x ∷ ys) (written_more X Y f xs old i d (omega arith) (omega arith))

-- the same of an array that has the first so many
pub written_next :
    (X Y : Type 0) (f : X → Y) (xs : List X) (room old : List Y) (i : ℕ) (v : Y) (d : X)
    → i < length xs → length xs ≤ length old → room ≡ map f (take i xs) ++ drop i old → v ≡ f (get_or xs i d)
    → set room i v ≡ map f (take (i + 1) xs) ++ drop (i + 1) old
written_next X Y f xs room old i v d low fits is value =
    rw is (rw value (let e : i + 1 ≡ suc i = omega arith in rw e (written_more X Y f xs old i d low fits)))

-- all of it is written
pub fits :
    (X Y : Type 0) (f : X → Y) (xs : List X) (old new : List Y) → length xs ≤ length old
    → new ≡ map f xs ++ drop (length xs) old → FitsArray (map f xs) status.Done old new (length xs)
fits X Y f xs old new room is =
    let e : length (map f xs) ≡ length xs = length-map xs f in
    inl (refl, sym e, rw e room, rw e is)

-- there is no room for all of it
pub does_not_fit :
    (X Y : Type 0) (f : X → Y) (xs : List X) (old : List Y) → length old < length xs
    → FitsArray (map f xs) status.NoRoom old old (length xs)
does_not_fit X Y f xs old short =
    let e : length (map f xs) ≡ length xs = length-map xs f in
    inr (refl, sym e, rw e short, refl)
