-- Runs of pages with equal bits, kept by where they start.
use Rattle.std.specs.Prelude.{true, ◌≡◌, ◌≢◌, ◌⊎◌, ℕ, suc, Bool, ◌&&◌, ◌≤◌, ◌<◌, ◌+◌, ◌-◌, nat_le}
use Rattle.std.specs.Prelude.{nat_lt, slice_index_or, List, [], ◌∷◌, bit_or, if◌then◌else◌}
use Rattle.std.specs.List.{AllByRecursion}
use Rattle.mapdb_join.specs.Bits.{has_bit}
use Rattle.mapdb_join.specs.declared.runs.bounds.TheConstants.{BITS_LIMIT, RUN_LIMIT}
use Rattle.mapdb_join.specs.declared.runs.starts.Start.{Start}

-- the bits at a page, where those in front of the list are given: those of the last start that is
-- not above the page
abbrev pub bits_after : ℕ → List Start → ℕ → ℕ
bits_after before [] page = before
bits_after before (start ∷ rest) page = if nat_lt page start.page then before
    else bits_after start.bits rest page

-- the bits behind the last start, where those in front of the list are given
abbrev pub last_bits : ℕ → List Start → ℕ
last_bits before [] = before
last_bits before (start ∷ rest) = last_bits start.bits rest

-- the page of the last start
abbrev pub last_page : ℕ → List Start → ℕ
last_page before [] = before
last_page before (start ∷ rest) = last_page start.page rest

-- the start at an index
abbrev pub start_at : List Start → ℕ → Start
start_at starts index = slice_index_or starts index (record { page = 0; bits = 0 })

-- how many starts in front are below the page
abbrev pub count_below : List Start → ℕ → ℕ
count_below [] page = 0
count_below (start ∷ rest) page = if nat_lt start.page page then suc (count_below rest page) else 0

-- pages ascend, from one on
abbrev pub Ascends : ℕ → List Start → Type 0
Ascends least [] = Unit {0}
Ascends least (start ∷ rest) = (least ≤ start.page) × Ascends (start.page + 1) rest

-- each start has other bits than the one in front of it
abbrev pub Changes : ℕ → List Start → Type 0
Changes before [] = Unit {0}
Changes before (start ∷ rest) = (start.bits ≢ before) × Changes start.bits rest

-- a start lies within the bounds
abbrev pub IsBounded : Start → Type 0
IsBounded start = (start.page ≤ RUN_LIMIT) × (start.bits < BITS_LIMIT)

-- Disjoint maximal runs of equal bits in ascending order: a run ends where the next start is, a
-- start without bits is the end of a run before a gap, and behind the last start there is nothing.
pub record IsRuns (starts : List Start) : Type 0 where
  pub ascending : Ascends 0 starts
  pub maximal : Changes 0 starts
  pub ended : last_bits 0 starts ≡ 0
  pub bounded : AllByRecursion IsBounded starts

-- whether the page has the bit: it lies in front of the last start, and the bits there have it
abbrev pub has_at : List Start → ℕ × ℕ → Bool
has_at starts p = nat_lt p.0 (last_page 0 starts) && has_bit (bits_after 0 starts p.0) p.1

-- the new bits are the old ones, with some added from one page up to another
pub record IsOver (first end bits : ℕ) (old new : List Start) : Type 0 where
  pub inside : (page : ℕ) → first ≤ page → page < end
      → bits_after 0 new page ≡ bit_or (bits_after 0 old page) bits
  pub before : (page : ℕ) → page < first → bits_after 0 new page ≡ bits_after 0 old page
  pub behind : (page : ℕ) → end ≤ page → bits_after 0 new page ≡ bits_after 0 old page

-- each page from one up to another has all of the bits
abbrev pub HasOver : ℕ → ℕ → ℕ → List Start → Type 0
HasOver first end bits starts =
    (page : ℕ) → first ≤ page → page < end
    → bit_or (bits_after 0 starts page) bits ≡ bits_after 0 starts page

-- each page has, of the first list, all bits that it has of the second
abbrev pub CoversAll : List Start → List Start → Type 0
CoversAll mine theirs =
    (page : ℕ) → bit_or (bits_after 0 mine page) (bits_after 0 theirs page) ≡ bits_after 0 mine page

-- each page has the bits that it has of either list, and no others
abbrev pub IsBothOf : List Start → List Start → List Start → Type 0
IsBothOf mine theirs new =
    (page : ℕ) → bits_after 0 new page ≡ bit_or (bits_after 0 mine page) (bits_after 0 theirs page)

-- each page has the bits of the first list, or those of both
abbrev pub IsPartlyBoth : List Start → List Start → List Start → Type 0
IsPartlyBoth mine theirs new =
    (page : ℕ) →
    (bits_after 0 new page ≡ bits_after 0 mine page)
    ⊎ (bits_after 0 new page ≡ bit_or (bits_after 0 mine page) (bits_after 0 theirs page))

-- no page from one on has a bit
abbrev pub HasNothingFrom : ℕ → List Start → Type 0
HasNothingFrom page starts = (q : ℕ) → page ≤ q → bits_after 0 starts q ≡ 0

-- the least maximal run of equal bits, which are not none, whose last page is not below a page
pub record IsLeastRun (starts : List Start) (page first count bits : ℕ) : Type 0 where
  pub some : bits ≢ 0
  pub pages : 0 < count
  pub reaches : page < first + count
  pub equal : (q : ℕ) → first ≤ q → q < first + count → bits_after 0 starts q ≡ bits
  pub begins : (q : ℕ) → q + 1 ≡ first → bits_after 0 starts q ≢ bits
  pub ends : bits_after 0 starts (first + count) ≢ bits
  pub nothing_between : (q : ℕ) → page ≤ q → q < first → bits_after 0 starts q ≡ 0
  pub limit : first + count ≤ RUN_LIMIT

-- the run that begins at an index is the least one whose last page is not below a page
abbrev pub IsRunAt : List Start → ℕ → ℕ → Type 0
IsRunAt starts page index =
    IsLeastRun starts page (start_at starts index).page
    ((start_at starts (index + 1)).page - (start_at starts index).page)
    (start_at starts index).bits

-- the page lies in the region, and the bit is among its bits
abbrev pub in_region : ℕ → ℕ → ℕ → ℕ × ℕ → Bool
in_region first count bits p = nat_le first p.0 && nat_lt p.0 (first + count) && has_bit bits p.1

-- the atoms of the region are there
abbrev pub HasRegion : List Start → ℕ → ℕ → ℕ → Type 0
HasRegion starts first count bits = (p : ℕ × ℕ) → in_region first count bits p ≡ true
    → has_at starts p ≡ true
