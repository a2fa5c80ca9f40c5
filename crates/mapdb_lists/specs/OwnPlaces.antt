-- The places of one owner, how they are ordered, and which of them meet pages.
use Rattle.std.specs.Prelude.{◌≡◌, ℕ, Bool, true, false, ◌&&◌, ◌+◌, ◌-◌, ◌*◌, ◌%◌, ◌^◌, ◌≤◌, ◌<◌}
use Rattle.std.specs.Prelude.{nat_lt, min, max, List, Option, Some, None, if◌then◌else◌, ◌⊎◌, []}
use Rattle.std.specs.Prelude.{◌∷◌, drop, filter, length}
use Rattle.std.specs.BTreeMap.Range.{IsLeBy, is_from_start}
use Rattle.std.specs.Ordering.{is_lt}
use Rattle.std.specs.declared.ops.Bound.TheVariants.{Included}
use Rattle.mapdb_fpage.specs.Bounds.{least_order, page_limit, top_order}
use Rattle.mapdb_facts.specs.Names.{root}
use Rattle.mapdb_facts.specs.declared.names.RecordId.{RecordId}
pub use Rattle.mapdb_lists.specs.Standing.{place_cmp, stands}
use Rattle.mapdb_lists.specs.declared.own_places.FoundPlace.{FoundPlace}
use Rattle.mapdb_lists.specs.declared.own_places.NextPlace.{NextPlace}
use Rattle.mapdb_lists.specs.declared.own_place.OwnPlace.{OwnPlace}
use Rattle.mapdb_lists.specs.declared.own_places.OwnPlaces.{OwnPlaces}
use Rattle.mapdb_lists.specs.declared.own_places.OwnPlaces.TheVariants.{Few, Many, One}
use Rattle.mapdb_lists.specs.declared.own_places.Sweep.{Sweep}
use Rattle.mapdb_lists.specs.declared.place_sets.Spot.{Spot}

-- the places of the owner, each once or more
abbrev pub own_list : OwnPlaces → List OwnPlace
own_list (One place) = place ∷ []
own_list (Few list) = list.items
own_list (Many many) = many.value.places

-- the places of the owner as they came, where they are a few
abbrev pub few_list : OwnPlaces → Option (List OwnPlace)
few_list (One place) = Some (place ∷ [])
few_list (Few list) = Some list.items
few_list (Many many) = None

-- the least of the places that pass a test
pub record IsLeastPlace (test : OwnPlace → Bool) (places : List OwnPlace) (p : OwnPlace)
    : Type 0 where
  pub held : stands places p ≡ true
  pub passing : test p ≡ true
  pub least : (k : OwnPlace) → stands places k ≡ true → test k ≡ true → IsLeBy place_cmp p k

-- that place, where there is one
abbrev pub IsFirstPlaceWhere : (OwnPlace → Bool) → List OwnPlace → Option OwnPlace → Type 0
IsFirstPlaceWhere test places None = (k : OwnPlace) → stands places k ≡ true → test k ≡ false
IsFirstPlaceWhere test places (Some p) = IsLeastPlace test places p

-- the lesser of two places, where there is another
abbrev pub lesser_place : Option OwnPlace → OwnPlace → OwnPlace
lesser_place None p = p
lesser_place (Some q) p = if is_lt (place_cmp q p) then q else p

-- the lesser of the place that was found and this one, where this one passes a test
abbrev pub lesser_where : (OwnPlace → Bool) → Option OwnPlace → OwnPlace → Option OwnPlace
lesser_where test found p = if test p then Some (lesser_place found p) else found

-- how many pages the place has
abbrev pub own_pages : OwnPlace → ℕ
own_pages p = 2 ^ (p.order - least_order)

-- from one page up to all, aligned, and from a page of the space on
pub record IsAlignedPlace (p : OwnPlace) : Type 0 where
  pub at_least_a_page : least_order ≤ p.order
  pub at_most_all : p.order ≤ top_order
  pub aligned : p.first % own_pages p ≡ 0
  pub in_space : p.first < page_limit

abbrev pub AreAligned : List OwnPlace → Type 0
AreAligned places = (p : OwnPlace) → stands places p ≡ true → IsAlignedPlace p

-- a page of the place lies among the pages from one on up to before an end
abbrev pub own_meets : OwnPlace → ℕ → ℕ → Bool
own_meets p first end = nat_lt (max p.first first) (min (p.first + own_pages p) end)

-- the place stands after another, where there is one
abbrev pub is_beyond : Option OwnPlace → OwnPlace → Bool
is_beyond None p = true
is_beyond (Some after) p = is_lt (place_cmp after p)

-- it does, and meets the pages
abbrev pub is_next : Option OwnPlace → ℕ → ℕ → OwnPlace → Bool
is_next after first end p = is_beyond after p && own_meets p first end

-- the least place above another that meets the pages
pub record IsLeastNext (places : List OwnPlace) (first end : ℕ) (after : Option OwnPlace)
    (p : OwnPlace) : Type 0 where
  pub held : stands places p ≡ true
  pub above : is_beyond after p ≡ true
  pub meeting : own_meets p first end ≡ true
  pub least : (k : OwnPlace) → stands places k ≡ true → is_beyond after k ≡ true
      → own_meets k first end ≡ true → IsLeBy place_cmp p k

-- that place, where there is one
abbrev pub IsNextPlace : List OwnPlace → ℕ → ℕ → Option OwnPlace → Option OwnPlace → Type 0
IsNextPlace places first end after None = (k : OwnPlace) → stands places k ≡ true
    → is_beyond after k ≡ true → own_meets k first end ≡ false
IsNextPlace places first end after (Some p) = IsLeastNext places first end after p

-- a place above another, with none that meets the pages before it
pub record IsReachedAbove (places : List OwnPlace) (first end : ℕ) (after : Option OwnPlace)
    (p : OwnPlace) : Type 0 where
  pub held : stands places p ≡ true
  pub above : is_beyond after p ≡ true
  pub least : (k : OwnPlace) → stands places k ≡ true → is_beyond after k ≡ true
      → own_meets k first end ≡ true → IsLeBy place_cmp p k

-- such a place, or none that meets the pages
abbrev pub HasReached : List OwnPlace → ℕ → ℕ → Option OwnPlace → Option OwnPlace → Type 0
HasReached places first end after None = (k : OwnPlace) → stands places k ≡ true
    → is_beyond after k ≡ true → own_meets k first end ≡ false
HasReached places first end after (Some p) = IsReachedAbove places first end after p

-- a place of an order from one on, with none of these before it that meets the pages
pub record IsReachedFrom (places : List OwnPlace) (order first end : ℕ) (p : OwnPlace)
    : Type 0 where
  pub held : stands places p ≡ true
  pub behind : order ≤ p.order
  pub least : (k : OwnPlace) → stands places k ≡ true → order ≤ k.order
      → own_meets k first end ≡ true → IsLeBy place_cmp p k

-- such a place, or none of these meets the pages
abbrev pub HasReachedFrom : List OwnPlace → ℕ → ℕ → ℕ → Option OwnPlace → Type 0
HasReachedFrom places order first end None = (k : OwnPlace) → stands places k ≡ true
    → order ≤ k.order → own_meets k first end ≡ false
HasReachedFrom places order first end (Some p) = IsReachedFrom places order first end p

-- the name of a place that meets the pages
pub record IsNameMeeting (places : List OwnPlace) (first end : ℕ) (id : RecordId) : Type 0 where
  pub p : OwnPlace
  pub held : stands places p ≡ true
  pub meeting : own_meets p first end ≡ true
  pub is : p.id ≡ id

-- the name of a place from one on that is of its order and begins before an end
pub record IsNameFrom (places : List OwnPlace) (from : OwnPlace) (end : ℕ) (id : RecordId)
    : Type 0 where
  pub p : OwnPlace
  pub held : stands places p ≡ true
  pub inside : is_from_start place_cmp (Included from) p ≡ true
  pub order : p.order ≡ from.order
  pub begins : p.first < end
  pub is : p.id ≡ id

-- where places begin, from an order and a first page on
abbrev pub start : ℕ → ℕ → OwnPlace
start order first = record { order = order; first = first; id = root }

-- the place of a spot
abbrev pub spot_place : Spot → OwnPlace
spot_place spot = spot.place

-- what comes behind the place is the least above it
abbrev pub IsBehind : List OwnPlace → Spot → Type 0
IsBehind places spot = IsFirstPlaceWhere (is_beyond (Some spot.place)) places spot.next

-- the place that was found
abbrev pub found_place : FoundPlace → OwnPlace
found_place found = found.place

-- where it is said to be the last, none behind it meets the pages
abbrev pub IsLastWhereSaid : List OwnPlace → ℕ → ℕ → FoundPlace → Type 0
IsLastWhereSaid places first end found = found.last ≡ true
    → IsNextPlace places first end (Some found.place) None

-- the orders from a place's own on, counted twice, and one more where it ends before the first page
abbrev pub orders_left : ℕ → OwnPlace → ℕ
orders_left first p = 1 + 2 * (top_order + 1 - p.order) + (1 - (p.first + own_pages p - first))

-- those of the place that is reached
abbrev pub orders_ahead : ℕ → Option OwnPlace → ℕ
orders_ahead first None = 0
orders_ahead first (Some p) = orders_left first p

-- a sweep that has all places ahead
abbrev pub at_start : Sweep
at_start = record { passed = 0; after = None; at = 0; over = false }

-- of a few places a sweep has those ahead that were not looked at
abbrev pub few_ahead : List OwnPlace → Sweep → List OwnPlace
few_ahead places sweep = drop sweep.passed places

-- of many those above the last that was found
abbrev pub many_ahead : List OwnPlace → Sweep → List OwnPlace
many_ahead places sweep = if sweep.over then [] else filter (is_beyond sweep.after) places

-- the places that a sweep has ahead
abbrev pub ahead : OwnPlaces → Sweep → List OwnPlace
ahead (One place) = few_ahead (place ∷ [])
ahead (Few list) = few_ahead list.items
ahead (Many many) = many_ahead many.value.places

-- one of the places that meet the pages; all others that a sweep had ahead, and that meet them, are
-- still ahead of it, and it has fewer ahead
pub record IsSweptTo (places : List OwnPlace) (ahead_of : Sweep → List OwnPlace) (first end : ℕ)
    (sweep : Sweep) (next : NextPlace) : Type 0 where
  pub held : stands places next.place ≡ true
  pub meeting : own_meets next.place first end ≡ true
  pub rest : (k : OwnPlace) → stands (ahead_of sweep) k ≡ true → own_meets k first end ≡ true
      → (next.place ≡ k) ⊎ (stands (ahead_of next.sweep) k ≡ true)
  pub fewer : length (ahead_of next.sweep) < length (ahead_of sweep)

-- such a place, or none of those ahead meets the pages
abbrev pub IsSweptOn : List OwnPlace → (Sweep → List OwnPlace) → ℕ → ℕ → Sweep → Option NextPlace
    → Type 0
IsSweptOn places ahead_of first end sweep None = (k : OwnPlace)
    → stands (ahead_of sweep) k ≡ true → own_meets k first end ≡ false
IsSweptOn places ahead_of first end sweep (Some next) =
    IsSweptTo places ahead_of first end sweep next
