-- How far what a page is served from goes on.
use Rattle.std.specs.Prelude.{◌≡◌, ℕ, Bool, true, false, ◌+◌, ◌-◌, ◌<◌, ◌≤◌, ◌==◌, ◌&&◌, Option}
use Rattle.std.specs.Prelude.{Some, None}
use Rattle.mapdb_fpage.specs.Bounds.{page_limit}
use Rattle.mapdb_fpage.specs.RightSets.{same_rights}
use Rattle.mapdb_replica.specs.Pairs.{Pair}
use Rattle.mapdb_rights.specs.declared.index.served_pages.SteadyPages.{SteadyPages}

-- the frame that lies so far on, with the same rights
abbrev pub pair_on : ℕ → Option Pair → Option Pair
pair_on count None = None
pair_on count (Some pair) = Some (pair.0 + count, pair.1)

-- so far on, what begins with this still goes on: it is none, or the frame that lies as far on,
-- with the same rights
abbrev pub continues : Option Pair → ℕ → Option Pair → Bool
continues None count None = true
continues None count (Some later) = false
continues (Some first) count None = false
continues (Some first) count (Some later) = (later.0 == first.0 + count)
    && same_rights later.1 first.1

-- pages, from one on, over which what they are served from goes on
pub record AreSteady (served_at : ℕ → Option Pair) (pages : SteadyPages) : Type 0 where
  pub here : pages.served ≡ served_at pages.page
  pub above : pages.page < pages.end
  pub limit : pages.end ≤ page_limit
  pub same : (count : ℕ) → pages.page + count < pages.end
      → served_at (pages.page + count) ≡ pair_on count (served_at pages.page)

-- such pages from this one on
abbrev pub IsSteadyPart : (ℕ → Option Pair) → ℕ → SteadyPages → Type 0
IsSteadyPart served_at page pages = (pages.page ≡ page) × AreSteady served_at pages

-- the end of the pages, from one on, over which that goes on: as many as there are one behind the
-- other
pub record IsRunEnd (served_at : ℕ → Option Pair) (page end : ℕ) : Type 0 where
  pub above : page < end
  pub limit : end ≤ page_limit
  pub same : (count : ℕ) → page + count < end
      → served_at (page + count) ≡ pair_on count (served_at page)
  pub other : end < page_limit → continues (served_at page) (end - page) (served_at end) ≡ false
