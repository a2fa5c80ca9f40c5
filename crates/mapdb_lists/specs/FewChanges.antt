-- A few changes of a record: rights at pages in a list, and one shift for all of them.
use Rattle.std.specs.Prelude.{◌≡◌, ℕ, nat_eq, List, [], ◌∷◌, Option, Some, None}
use Rattle.std.specs.Prelude.{Bool, true, false, ◌&&◌, not, if◌then◌else◌}
use Rattle.mapdb_fpage.specs.Bounds.{page_limit}
use Rattle.mapdb_fpage.specs.RightSets.{is_empty}
use Rattle.mapdb_fpage.specs.declared.right_sets.Rights.{Rights}
use Rattle.mapdb_lists.specs.declared.changes.Change.{Change}
use Rattle.mapdb_lists.specs.declared.few_changes.PageRights.{PageRights}

-- the rights at pages of a list, with the shift of all that are some
pub record ListedChanges : Type 0 where
  pub shift : ℕ
  pub list : List PageRights

-- the one entry's rights, at its page
abbrev pub one_change : PageRights → ℕ → Option Rights
one_change one page = if nat_eq one.page page then Some one.rights else None

-- the first of two that is there
abbrev pub or_change : Option Rights → Option Rights → Option Rights
or_change None other = other
or_change (Some rights) other = Some rights

-- the rights at a page among those of a list
abbrev pub listed_rights : List PageRights → ℕ → Option Rights
listed_rights [] page = None
listed_rights (first ∷ rest) page = or_change (one_change first page) (listed_rights rest page)

-- the change to these rights, where all that are some have this shift
abbrev pub with_shift : ℕ → Rights → Change
with_shift shift rights = record {
  rights = rights;
  shift = if is_empty rights then page_limit else shift;
}

-- that change, where there is one
abbrev pub shown : ℕ → Option Rights → Option Change
shown shift None = None
shown shift (Some rights) = Some (with_shift shift rights)

-- the change at a page among those of a list
abbrev pub few_change : ListedChanges → ℕ → Option Change
few_change few page = shown few.shift (listed_rights few.list page)

-- a list with this shift shows the change as it is
abbrev pub ShowsChange : ℕ → Change → Type 0
ShowsChange shift change = change ≡ with_shift shift change.rights

-- the list has no change
abbrev pub is_bare : List PageRights → Bool
is_bare [] = true
is_bare (first ∷ rest) = false

-- the shift where a change comes: a list without changes takes over that of rights
abbrev pub shift_for : ListedChanges → Change → ℕ
shift_for few change = if is_bare few.list && not (is_empty change.rights) then change.shift
    else few.shift
