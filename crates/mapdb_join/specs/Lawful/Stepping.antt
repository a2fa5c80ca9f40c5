-- From one start to the next.
use Rattle.std.specs.Prelude.{◌≡◌, ℕ, ◌≤◌, ◌<◌, List, [], ◌∷◌, refl}
use Rattle.std.proofs.Common.{arith}
use Rattle.std.proofs.lemmas.Bool.{le-ltb, lt-ltb}
use Rattle.mapdb_join.specs.Runs.{Ascends, bits_after}
use Rattle.mapdb_join.specs.declared.runs.starts.Start.{Start}

-- a page in front of the next start has the bits that are given
pub here : (before : ℕ) (s : Start) (rest : List Start) (page : ℕ) → page < s.page →
    bits_after before (s ∷ rest) page ≡ before
here before s rest page h = rw (lt-ltb page s.page h) refl

-- a page from the next start on
pub there : (before : ℕ) (s : Start) (rest : List Start) (page : ℕ) → s.page ≤ page →
    bits_after before (s ∷ rest) page ≡ bits_after s.bits rest page
there before s rest page h = rw (le-ltb page s.page h) refl

-- in front of all starts
pub below_all : (before least : ℕ) (xs : List Start) (page : ℕ) → Ascends least xs → page < least →
    bits_after before xs page ≡ before
below_all before least [] page a h = refl
below_all before least (s ∷ rest) page a h = let l : least ≤ s.page = a.0 in here before s rest page (omega arith)
