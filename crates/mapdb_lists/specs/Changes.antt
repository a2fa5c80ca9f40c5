-- What is cached of records at pages, and its changes: from a page of a record on these rights
-- stand, with frames as far from the pages, up to the next change.
use Rattle.std.specs.Prelude.{◌≡◌, ◌≢◌, ◌<◌, ◌≤◌, ◌&&◌, ◌⊎◌, ℕ, zero, suc, Bool, nat_le}
use Rattle.std.specs.Prelude.{nat_lt, List, Option, None, Some, IsSome, if◌then◌else◌}
use Rattle.std.specs.Map.{lookup}
use Rattle.std.specs.Option.{unwrap_or}
use Rattle.mapdb_fpage.specs.Bounds.{page_limit}
use Rattle.mapdb_fpage.specs.Place.{is_page}
use Rattle.mapdb_fpage.specs.RightSets.{all_rights, no_rights}
use Rattle.mapdb_fpage.specs.declared.right_sets.Rights.{Rights}
use Rattle.mapdb_facts.specs.Names.{is_root, same_id}
use Rattle.mapdb_facts.specs.declared.names.RecordId.{RecordId}
use Rattle.mapdb_lists.specs.declared.changes.Change.{Change}
use Rattle.mapdb_lists.specs.declared.changes.Stretch.{Stretch}
use Rattle.mapdb_lists.specs.declared.own_changes.OwnChanges.{OwnChanges}
use Rattle.mapdb_lists.specs.OwnChanges.{IsNoneUntil, own_change}

-- rights by name and page
abbrev pub Cached : Type 0
Cached = RecordId → ℕ → Rights

-- the page is one of these pages of the record, from the first up to before the end
abbrev pub covers : RecordId → ℕ → ℕ → RecordId → ℕ → Bool
covers id first end other page = same_id id other && (nat_le first page && nat_lt page end)

abbrev pub PageChanges : Type 0
PageChanges = List (RecordId × OwnChanges)

-- the change at a page among those of a record, where it has some
abbrev pub change_in : Option OwnChanges → ℕ → Option Change
change_in None page = None
change_in (Some own) page = own_change own page

-- what stands from this page of the record on, where it changes there
abbrev pub change_at : PageChanges → RecordId → ℕ → Option Change
change_at changes id page = change_in (lookup (same_id id) changes) page

-- no change at any page
abbrev pub no_change : {V : Type 0} → ℕ → Option V
no_change page = None

-- what stands before any change: the root has all rights, and each page of it is its own frame
abbrev pub at_first : RecordId → Change
at_first id = record { rights = if is_root id then all_rights else no_rights; shift = page_limit }

-- what stands behind the last page
abbrev pub past_the_end : Change
past_the_end = record { rights = no_rights; shift = page_limit }

-- what the last change up to a page leaves
unfoldable pub changed : {V : Type 0} → (ℕ → Option V) → V → ℕ → V
changed change first zero = unwrap_or (change zero) first
changed change first (suc page) = unwrap_or (change (suc page)) (changed change first page)

-- what the changes in front of a page leave
abbrev pub left_before : {V : Type 0} → (ℕ → Option V) → V → ℕ → V
left_before change first zero = first
left_before change first (suc page) = changed change first page

-- Pages over which one change stood were given another: it stands at the first of them, by itself
-- or since it stood in front of them; what follows at their end stays, and so do all other changes.
pub record IsRewritten {V : Type 0} (old : ℕ → Option V) (before : V) (first end : ℕ)
    (was change : V) (new : ℕ → Option V) : Type 0 where
  pub at_first : unwrap_or (new first) (left_before old before first) ≡ change
  pub at_end : end < page_limit → unwrap_or (new end) change ≡ unwrap_or (old end) was
  pub elsewhere : (q : ℕ) → (first ≡ q → ⊥) → (end ≡ q → ⊥) → new q ≡ old q

-- The change at the first of pages goes, since they get what stands in front of them, and none is
-- at their end, where what follows has to begin.
pub record MovesOn {V : Type 0} (at : ℕ → Option V) (before : V) (first end : ℕ) (change : V)
    : Type 0 where
  pub left : change ≡ left_before at before first
  pub none : at end ≡ None

-- The change at the end of pages goes, since they get the same, and they have to begin with one,
-- since they do not get what stands in front of them.
pub record MovesBack {V : Type 0} (at : ℕ → Option V) (before : V) (first end : ℕ) (change : V)
    : Type 0 where
  pub same : at end ≡ Some change
  pub other : change ≢ left_before at before first

-- where pages are given a change, one goes and one comes, with no other between them
abbrev pub IsOneForOne : {V : Type 0} → (ℕ → Option V) → V → ℕ → ℕ → V → Type 0
IsOneForOne at before first end change = (end < page_limit)
    × ((IsSome (at first) × MovesOn at before first end change)
    ⊎ ((at first ≡ None) × MovesBack at before first end change))

-- what the last change up to the page leaves, and an end up to which there is no other
pub record IsStretch (at : ℕ → Option Change) (first : Change) (page : ℕ) (stretch : Stretch)
    : Type 0 where
  pub seen : stretch.change ≡ changed at first page
  pub above : page < stretch.end
  pub limit : stretch.end ≤ page_limit
  pub none : IsNoneUntil at page stretch.end

-- what the changes leave at each page of each record
abbrev pub seen_in : PageChanges → RecordId → ℕ → Change
seen_in changes id page = if is_page page then changed (change_at changes id) (at_first id) page
    else past_the_end

-- the cached rights that the changes stand for
abbrev pub cached_in : PageChanges → Cached
cached_in changes id page = (seen_in changes id page).rights
