-- Whose places are listed, and which of them meet pages.
use Rattle.std.specs.Prelude.{◌≡◌, ℕ, Bool, true, false, List, [], ◌∷◌, ◌++◌, length, map, Option}
use Rattle.std.specs.Prelude.{Some, None, count_by, ◌&&◌, ◌||◌, if◌then◌else◌, not}
use Rattle.std.specs.BTreeMap.{is_at}
use Rattle.std.specs.BTreeMap.Range.{IsFromStart, IsLeBy}
use Rattle.std.specs.Map.{lookup}
use Rattle.std.specs.Ordering.{is_lt, nat_cmp, ordering_then}
use Rattle.std.specs.declared.cmp.Ordering.{Ordering}
use Rattle.std.specs.declared.cmp.Ordering.TheVariants.{Greater, Less}
use Rattle.std.specs.declared.ops.Bound.{Bound}
use Rattle.mapdb_facts.specs.Kept.{id_cmp, space_cmp}
use Rattle.mapdb_lists.specs.declared.own_place.OwnPlace.{OwnPlace}
use Rattle.mapdb_lists.specs.declared.own_places.OwnPlaces.{OwnPlaces}
use Rattle.mapdb_lists.specs.declared.places.Listed.{Listed}
use Rattle.mapdb_lists.specs.declared.places.Owner.{Owner}
use Rattle.mapdb_lists.specs.declared.places.Owner.TheVariants.{Record, Space}
use Rattle.mapdb_lists.specs.declared.places.Places.{Places}
pub use Rattle.mapdb_lists.specs.Owners.{same_owner}
use Rattle.mapdb_lists.specs.OwnPlaces.{IsAlignedPlace, own_list, own_meets, own_pages, place_cmp}
use Rattle.mapdb_lists.specs.OwnPlaces.{stands}

-- records come before spaces
abbrev pub owner_cmp : Owner → Owner → Ordering
owner_cmp (Record a) (Record b) = id_cmp a b
owner_cmp (Record a) (Space b) = Less
owner_cmp (Space a) (Record b) = Greater
owner_cmp (Space a) (Space b) = space_cmp a b

-- by the owner, the order, the first page and the record's name
abbrev pub listed_cmp : Listed → Listed → Ordering
listed_cmp a b =
    ordering_then (owner_cmp a.owner b.owner) (ordering_then (nat_cmp a.order b.order)
    (ordering_then (nat_cmp a.first b.first) (id_cmp a.id b.id)))

-- the place alone, whoever owns it
abbrev pub own_place : Listed → OwnPlace
own_place e = record { order = e.order; first = e.first; id = e.id }

-- the place as the owner's
abbrev pub listed_for : Owner → OwnPlace → Listed
listed_for owner p = record { owner = owner; order = p.order; first = p.first; id = p.id }

-- the places of an owner, where it has some
abbrev pub places_in : Option OwnPlaces → List OwnPlace
places_in None = []
places_in (Some own) = own_list own

-- one key has one place more, and each other what it had
pub record IsPut (K : Type 0) (same : K → K → Bool) (old new : List (K × OwnPlaces)) (key : K)
    (place : OwnPlace) : Type 0 where
  pub own : OwnPlaces
  pub given : (q : K) → lookup (same q) new
      ≡ (if same key q then Some own else lookup (same q) old)
  pub put : (k : OwnPlace) → stands (own_list own) k
      ≡ (is_at (place_cmp place) k || stands (places_in (lookup (same key) old)) k)

-- one key no longer has the place, where it had it, and each other key has what it had
pub record IsRemoved (K : Type 0) (same : K → K → Bool) (old new : List (K × OwnPlaces)) (key : K)
    (place : OwnPlace) : Type 0 where
  pub removed : (k : OwnPlace) → stands (places_in (lookup (same key) new)) k
      ≡ (not (is_at (place_cmp place) k) && stands (places_in (lookup (same key) old)) k)
  pub others : (q : K) → same key q ≡ false → lookup (same q) new ≡ lookup (same q) old

-- the places of an owner among those of all
abbrev pub places_among : List (Owner × OwnPlaces) → Owner → List OwnPlace
places_among owners owner = places_in (lookup (same_owner owner) owners)

-- the entry stands among the places of its owner
abbrev pub is_among : List (Owner × OwnPlaces) → Listed → Bool
is_among owners e = stands (places_among owners e.owner) (own_place e)

-- the places of an owner among all that are listed
abbrev pub owner_places : Places → Owner → List OwnPlace
owner_places places owner = places_among places.own.entries owner

-- the entry is listed
abbrev pub is_listed : Places → Listed → Bool
is_listed places e = is_among places.own.entries e

-- all entries of all owners
abbrev pub entries_among : List (Owner × OwnPlaces) → List Listed
entries_among [] = []
entries_among (o ∷ owners) = map (listed_for o.0) (own_list o.1) ++ entries_among owners

-- all that is listed
abbrev pub all_listed : Places → List Listed
all_listed places = entries_among places.own.entries

-- how much is listed
abbrev pub listed_len : Places → ℕ
listed_len places = length (all_listed places)

-- how many pages the entry has
abbrev pub listed_pages : Listed → ℕ
listed_pages e = own_pages (own_place e)

-- from one page up to all, aligned, and from a page of the space on
abbrev pub IsAligned : Listed → Type 0
IsAligned e = IsAlignedPlace (own_place e)

abbrev pub AllAligned : Places → Type 0
AllAligned set = (e : Listed) → is_listed set e ≡ true → IsAligned e

-- a page of the entry lies among the pages from one on up to before an end
abbrev pub meets : Listed → ℕ → ℕ → Bool
meets e first end = own_meets (own_place e) first end

-- the entry stands after another, where there is one
abbrev pub is_above : Option Listed → Listed → Bool
is_above None e = true
is_above (Some after) e = is_lt (listed_cmp after e)

-- the least entry of the owner, above another, that meets the pages
pub record IsLeastMeeting (set : Places) (owner : Owner) (first end : ℕ) (after : Option Listed)
    (e : Listed) : Type 0 where
  pub held : is_listed set e ≡ true
  pub owned : e.owner ≡ owner
  pub above : is_above after e ≡ true
  pub meeting : meets e first end ≡ true
  pub least : (k : Listed) → is_listed set k ≡ true → k.owner ≡ owner → is_above after k ≡ true
      → meets k first end ≡ true → IsLeBy listed_cmp e k

-- that entry, where there is one
abbrev pub IsNextMeeting : Places → Owner → ℕ → ℕ → Option Listed → Option Listed → Type 0
IsNextMeeting set owner first end after None = (k : Listed) → is_listed set k ≡ true
    → k.owner ≡ owner → is_above after k ≡ true → meets k first end ≡ false
IsNextMeeting set owner first end after (Some e) = IsLeastMeeting set owner first end after e

-- how many entries stand after another, or how many there are
abbrev pub left_above : Places → Option Listed → ℕ
left_above set after = count_by (is_above after) (all_listed set)

-- the least entry of the owner inside a bound
pub record IsFirst (set : Places) (owner : Owner) (start : Bound Listed) (e : Listed) : Type 0 where
  pub held : is_listed set e ≡ true
  pub owned : e.owner ≡ owner
  pub inside : IsFromStart listed_cmp start e
  pub least : (k : Listed) → is_listed set k ≡ true → k.owner ≡ owner
      → IsFromStart listed_cmp start k → IsLeBy listed_cmp e k

-- that entry, where there is one
abbrev pub IsFirstInside : Places → Owner → Bound Listed → Option Listed → Type 0
IsFirstInside set owner start None = (k : Listed) → is_listed set k ≡ true → k.owner ≡ owner
    → ¬ (IsFromStart listed_cmp start k)
IsFirstInside set owner start (Some e) = IsFirst set owner start e
