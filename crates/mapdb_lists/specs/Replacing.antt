-- Pages of a record that are to get a change, as far as one stands there.
use Rattle.std.specs.Prelude.{◌≡◌, ◌≢◌, ◌<◌, ◌≤◌, ℕ, Bool, true, false, Option, Some, None}
use Rattle.std.specs.Prelude.{if◌then◌else◌}
use Rattle.mapdb_fpage.specs.Bounds.{page_limit}
use Rattle.mapdb_fpage.specs.RightSets.{is_empty}
use Rattle.mapdb_facts.specs.Names.{same_id}
use Rattle.mapdb_facts.specs.declared.names.RecordId.{RecordId}
use Rattle.mapdb_lists.specs.declared.changes.Change.{Change}
use Rattle.mapdb_lists.specs.declared.changes.Replaced.{Replaced}
use Rattle.mapdb_lists.specs.Changes.{PageChanges, IsRewritten, at_first, cached_in, change_at}
use Rattle.mapdb_lists.specs.Changes.{changed, covers, seen_in}
use Rattle.mapdb_lists.specs.OwnChanges.{IsNoneUntil}

-- the changes leave rights at some page, or none at any
abbrev pub HasRights : (ℕ → Option Change) → Change → Type 0
HasRights at before = (page : ℕ) × (page < page_limit)
    × (is_empty (changed at before page).rights ≡ false)

abbrev pub HasNoRights : (ℕ → Option Change) → Change → Type 0
HasNoRights at before = (page : ℕ) → page < page_limit
    → is_empty (changed at before page).rights ≡ true

-- The pages had the rights already, and all changes stay.
pub record IsUnchanged (old : ℕ → Option Change) (before : Change) (first : ℕ) (change : Change)
    (new : ℕ → Option Change) : Type 0 where
  pub rights : (changed old before first).rights ≡ change.rights
  pub same : (page : ℕ) → new page ≡ old page

-- The pages up to the end had other rights, and got the change.
pub record IsOverwritten (old : ℕ → Option Change) (before : Change) (first end : ℕ)
    (change : Change) (new : ℕ → Option Change) (had_some : Bool) : Type 0 where
  pub other : (changed old before first).rights ≢ change.rights
  pub given : IsRewritten old before first end (changed old before first) change new
  pub some : had_some ≡ true → HasRights old before
  pub none : had_some ≡ false → HasNoRights old before

-- one of both, as it is told
abbrev pub IsOutcome : (ℕ → Option Change) → Change → ℕ → ℕ → Change → (ℕ → Option Change)
    → Option Bool → Type 0
IsOutcome old before first end change new None = IsUnchanged old before first change new
IsOutcome old before first end change new (Some had_some) =
    IsOverwritten old before first end change new had_some

-- what one record's changes come to
pub record IsReplaced (old : ℕ → Option Change) (before : Change) (first limit : ℕ)
    (change : Change) (new : ℕ → Option Change) (replaced : Replaced) : Type 0 where
  pub above : first < replaced.end
  pub within : replaced.end ≤ limit
  pub one : IsNoneUntil old first replaced.end
  pub how : IsOutcome old before first replaced.end change new replaced.had_some

-- the same among those of all records
pub record IsReplacedOf (old : PageChanges) (id : RecordId) (first limit : ℕ) (change : Change)
    (new : PageChanges) (replaced : Replaced) : Type 0 where
  pub own : IsReplaced (change_at old id) (at_first id) first limit change (change_at new id)
      replaced
  pub others : (other : RecordId) (page : ℕ) → same_id id other ≡ false
      → change_at new other page ≡ change_at old other page

-- By what is seen: the record had the rights already, and all that is seen stays ..
pub record IsSeenUnchanged (old : PageChanges) (id : RecordId) (first end : ℕ) (change : Change)
    (new : PageChanges) : Type 0 where
  pub rights : (page : ℕ) → first ≤ page → page < end → cached_in old id page ≡ change.rights
  pub same : (other : RecordId) (page : ℕ) → seen_in new other page ≡ seen_in old other page

-- .. or its pages up to the end got the change, and all other pages have what they had.
pub record IsSeenOverwritten (old : PageChanges) (id : RecordId) (first end : ℕ) (change : Change)
    (new : PageChanges) (had_some : Bool) : Type 0 where
  pub other : cached_in old id first ≢ change.rights
  pub seen : (other : RecordId) (page : ℕ) → seen_in new other page
      ≡ (if covers id first end other page then change else seen_in old other page)
  pub cached : (other : RecordId) (page : ℕ) → cached_in new other page
      ≡ (if covers id first end other page then change.rights else cached_in old other page)
  pub some : had_some ≡ true → (page : ℕ) × (is_empty (cached_in old id page) ≡ false)
  pub none : had_some ≡ false → (page : ℕ) → is_empty (cached_in old id page) ≡ true

-- one of both, as it is told
abbrev pub IsSeenReplaced : PageChanges → RecordId → ℕ → ℕ → Change → PageChanges
    → Option Bool → Type 0
IsSeenReplaced old id first end change new None = IsSeenUnchanged old id first end change new
IsSeenReplaced old id first end change new (Some had_some) =
    IsSeenOverwritten old id first end change new had_some

-- what is seen of all records then
pub record IsReplacedIn (old : PageChanges) (id : RecordId) (first limit : ℕ) (change : Change)
    (new : PageChanges) (replaced : Replaced) : Type 0 where
  pub above : first < replaced.end
  pub within : replaced.end ≤ limit
  pub how : IsSeenReplaced old id first replaced.end change new replaced.had_some
