-- What it is that a place is the largest.
use Rattle.std.specs.Prelude.{◌≡◌, ℕ, ◌+◌, ◌≤◌, ◌<◌}
use Rattle.mapdb_fpage.specs.Bounds.{page_limit}
use Rattle.mapdb_fpage.specs.Place.{IsPlace, Place, page_total}
use Rattle.mapdb_snapshot.specs.Cutting.{largest_place}

-- the place begins at the page, and has at most so many pages
abbrev pub BeginsAt : ℕ → ℕ → Place → Type 0
BeginsAt page count place = IsPlace place × (place.first_page ≡ page)
    × (page_total place ≤ count)

-- the place begins there, and no place that does has more pages
abbrev pub IsLargestAt : ℕ → ℕ → Place → Type 0
IsLargestAt page count place = BeginsAt page count place
    × ((other : Place) → BeginsAt page count other → page_total other ≤ page_total place)

-- the places that a run is cut into are the largest
abbrev pub PlacesAreLargest : Type 0
PlacesAreLargest = (page count : ℕ) → 0 < count → page + count ≤ page_limit
    → IsLargestAt page count (largest_place page count)
