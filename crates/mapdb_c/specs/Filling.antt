-- Lists that go into the caller's array.
use Rattle.std.specs.Prelude.{◌≡◌, ◌⊎◌, ℕ, ◌≤◌, ◌<◌, List, ◌++◌, drop, length}
use Rattle.mapdb_c.specs.declared.statuses.Status.{Status}
use Rattle.mapdb_c.specs.declared.statuses.Status.TheVariants as status

-- The list stands from the array's first place on, and what lies behind it stays; or there is no
-- room for all of it, and the array stays. How long the list is is told.
abbrev pub FitsArray : {A : Type 0} → List A → Status → List A → List A → ℕ → Type 0
FitsArray list told old new count =
    ((told ≡ status.Done) × (count ≡ length list) × (length list ≤ length old)
    × (new ≡ list ++ drop (length list) old))
    ⊎ ((told ≡ status.NoRoom) × (count ≡ length list) × (length old < length list) × (new ≡ old))

-- or memory ran out, and nothing is told
abbrev pub Fills : {A : Type 0} → List A → Status → List A → List A → ℕ → ℕ → Type 0
Fills list told old new count_old count_new =
    FitsArray list told old new count_new ⊎ ((told ≡ status.Memory) × (count_new ≡ count_old)
    × (new ≡ old))
