-- Places of an owner in a list, in their order.
use Rattle.std.specs.Prelude.{◌≡◌, ℕ, ◌<◌, List, length, get_or}
use Rattle.std.specs.declared.cmp.Ordering.TheVariants.{Less}
use Rattle.mapdb_lists.specs.Standing.{place_cmp}
use Rattle.mapdb_lists.specs.declared.own_place.OwnPlace.{OwnPlace}
use Rattle.mapdb_lists.specs.declared.sorted_places.KeptPlaces.{KeptPlaces}
use Rattle.mapdb_lists.specs.declared.sorted_places.KeptPlaces.TheVariants.{Listed, Tree}

-- each place comes before all behind it
abbrev pub Ascend : List OwnPlace → Type 0
Ascend places = (i j : ℕ) (d : OwnPlace) → i < j → j < length places
    → place_cmp (get_or places i d) (get_or places j d) ≡ Less

-- the place stands at an index
abbrev pub IsAtIndex : List OwnPlace → ℕ → OwnPlace → Type 0
IsAtIndex places index p = (index < length places) × ((d : OwnPlace) → get_or places index d ≡ p)

-- the places that are kept, in a list or in a tree
abbrev pub kept_places : KeptPlaces → List OwnPlace
kept_places (Listed list) = list.items
kept_places (Tree set) = set.keys

-- those in a list are in their order, as those in a tree always are
abbrev pub IsInOrder : KeptPlaces → Type 0
IsInOrder (Listed list) = Ascend list.items
IsInOrder (Tree set) = Unit {0}
