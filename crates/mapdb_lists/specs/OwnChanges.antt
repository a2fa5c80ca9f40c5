-- The changes of one record, in a list or in a map.
use Rattle.std.specs.Prelude.{◌≡◌, ℕ, ◌<◌, ◌≤◌, ⊤, Option, Some, None}
use Rattle.std.specs.BTreeMap.{BTreeMap, is_at}
use Rattle.std.specs.Map.{lookup}
use Rattle.std.specs.Ordering.{nat_cmp}
use Rattle.mapdb_lists.specs.declared.changes.Change.{Change}
use Rattle.mapdb_lists.specs.declared.own_changes.OwnChanges.{OwnChanges}
use Rattle.mapdb_lists.specs.declared.own_changes.OwnChanges.TheVariants.{Few, Many}
use Rattle.mapdb_lists.specs.FewChanges.{ShowsChange, few_change}
use Rattle.mapdb_lists.specs.PageOrder.{IsSpot}

-- the change at a page among those of a map
abbrev pub mapped_change : BTreeMap ℕ Change → ℕ → Option Change
mapped_change map page = lookup (is_at (nat_cmp page)) map.entries

-- the change of the record at a page
abbrev pub own_change : OwnChanges → ℕ → Option Change
own_change (Few few) page = few_change few page
own_change (Many map) page = mapped_change map page

-- the change can be kept where the record's are now
abbrev pub CanKeep : OwnChanges → Change → Type 0
CanKeep (Few few) change = ShowsChange few.shift change
CanKeep (Many map) change = ⊤

-- the spot of a page among those in a list: how many stand at it or in front of it
abbrev pub IsSpotIn : OwnChanges → ℕ → ℕ → Type 0
IsSpotIn (Few few) page spot = IsSpot few.list page spot
IsSpotIn (Many map) page spot = ⊤

-- the last change up to a page, with the page where it stands
pub record IsLastChange {V : Type 0} (at : ℕ → Option V) (page : ℕ) (found : ℕ × V) : Type 0 where
  pub up_to : found.0 ≤ page
  pub here : at found.0 ≡ Some found.1
  pub last : (q : ℕ) → found.0 < q → q ≤ page → at q ≡ None

-- that one, where there is one
abbrev pub IsLastUpTo : {V : Type 0} → (ℕ → Option V) → ℕ → Option (ℕ × V) → Type 0
IsLastUpTo at page None = (q : ℕ) → q ≤ page → at q ≡ None
IsLastUpTo at page (Some last) = IsLastChange at page last

-- between a page and an end there is no change
abbrev pub IsNoneUntil : {V : Type 0} → (ℕ → Option V) → ℕ → ℕ → Type 0
IsNoneUntil at page end = (q : ℕ) → page < q → q < end → at q ≡ None
