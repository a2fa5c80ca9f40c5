-- Runs of rights at pages.
use Rattle.std.proofs.Common.{◌≡◌, ℕ, ◌+◌, ◌-◌, ◌<◌, ◌≤◌, false, true, ap, [], ◌∷◌, arith}
use Rattle.std.specs.Prelude.{map}
use Rattle.mapdb_fpage.specs.Bounds.{page_limit}
use Rattle.mapdb_fpage.specs.RightSets.{is_empty}
use Rattle.mapdb_fpage.specs.declared.right_sets.Rights.{Rights}
use Rattle.mapdb_facts.proofs.Lists.RunLists.{run_to, skip_to}
use Rattle.mapdb_fpage.specs.RightSets.{same_rights}
use Rattle.mapdb_facts.specs.Runs.{runs_from}
use Rattle.mapdb_rights.specs.RightsRuns.{run_of, runs_behind}

-- no rights stand between the pages
pub skip_behind : (at : ℕ → Rights) (page next : ℕ) → page ≤ next → next ≤ page_limit → ((q : ℕ) → page ≤ q → q < next → is_empty (at q) ≡ true)
    → runs_behind at page ≡ runs_behind at next
unfolding runs_behind
skip_behind at page next low high none = ap (map run_of) (skip_to at page next page_limit low high none)

-- behind the last page there is none
pub none_behind : (at : ℕ → Rights) (page : ℕ) → page_limit ≤ page → runs_behind at page ≡ []
unfolding runs_behind
none_behind at page high = let none : page_limit - page ≡ 0 = omega arith in ap (λ n. map run_of (runs_from at page n)) none

-- the pages with these rights are one run
pub run_behind : (at : ℕ → Rights) (rights : Rights) (start end : ℕ) → is_empty rights ≡ false → start < end → end ≤ page_limit
    → ((q : ℕ) → start ≤ q → q < end → at q ≡ rights)
    → (end < page_limit → same_rights (at end) rights ≡ false)
    → runs_behind at start ≡ record { first_page = start; page_count = end - start; rights = rights } ∷ runs_behind at (start + (end - start))
unfolding runs_behind
run_behind at rights start end some low high same other = ap (map run_of) (run_to at rights start end page_limit some low high same other)
