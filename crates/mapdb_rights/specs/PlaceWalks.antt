-- Of the places of a space, those that a walk over its pages is in.
use Rattle.std.specs.Prelude.{◌≡◌, ◌⊎◌, ◌<◌, ℕ, true, List, drop}
use Rattle.mapdb_fpage.specs.Bounds.{page_limit}
use Rattle.mapdb_lists.specs.OwnPlaces.{own_meets, stands}
use Rattle.mapdb_lists.specs.declared.own_place.OwnPlace.{OwnPlace}
use Rattle.mapdb_rights.specs.declared.index.place_walk.PlaceWalk.{PlaceWalk}

-- what is held are some of the places; each that has a page from this one on is held, or is still
-- to come
pub record HasCome (places : List OwnPlace) (page : ℕ) (walk : PlaceWalk) : Type 0 where
  pub known : (p : OwnPlace) → stands walk.held.items p ≡ true → stands places p ≡ true
  pub all : (p : OwnPlace) → stands places p ≡ true → own_meets p page page_limit ≡ true
      → (stands walk.held.items p ≡ true) ⊎ (stands (drop walk.begun places) p ≡ true)

-- each place that is still to come begins behind the page
abbrev pub BeginBehind : List OwnPlace → ℕ → PlaceWalk → Type 0
BeginBehind places page walk = (p : OwnPlace) → stands (drop walk.begun places) p ≡ true
    → page < p.first
