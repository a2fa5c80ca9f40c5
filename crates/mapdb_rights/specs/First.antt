-- The first record of a space with a right at a page, and what records there have of its frame.
use Rattle.std.specs.Prelude.{◌≡◌, ◌==◌, ℕ, Bool, true, false, if◌then◌else◌}
use Rattle.mapdb_fpage.specs.RightSets.{includes, union}
use Rattle.mapdb_fpage.specs.declared.right_sets.Right.{Right}
use Rattle.mapdb_fpage.specs.declared.right_sets.Rights.{Rights}
use Rattle.mapdb_facts.specs.Names.{is_before}
use Rattle.mapdb_facts.specs.State.{State}
use Rattle.mapdb_facts.specs.declared.names.RecordId.{RecordId}
use Rattle.mapdb_facts.specs.declared.names.Space.{Space}
use Rattle.mapdb_lists.specs.Changes.{PageChanges, cached_in, seen_in}
use Rattle.mapdb_lists.specs.declared.changes.Change.{Change}
use Rattle.mapdb_rights.specs.Live.{IsLive}
use Rattle.mapdb_rights.specs.declared.index.first_records.First.{First}
use Rattle.mapdb_rights.specs.declared.index.first_records.First.TheVariants.{Alike, Mixed, Nothing}

-- what is cached of a page, with the rights of another record joined
abbrev pub rights_joined : Change → Change → Change
rights_joined seen change = record { rights = union seen.rights change.rights; shift = seen.shift }

-- of two records whose frames differ, the one that comes first
abbrev pub earlier_of : RecordId → Change → RecordId → Change → First
earlier_of other seen id change = if is_before id other then Mixed id change else Mixed other seen

-- of two records whose frames are one, the one that comes first, with the rights of both
abbrev pub both_of : RecordId → Change → RecordId → Change → First
both_of other seen id change =
    Alike (if is_before id other then id else other) (rights_joined seen change)

-- what was found, with one record more
abbrev pub first_with : RecordId → Change → First → First
first_with id change Nothing = Alike id change
first_with id change (Alike other seen) = if seen.shift == change.shift
    then both_of other seen id change else earlier_of other seen id change
first_with id change (Mixed other seen) = earlier_of other seen id change

-- with it where it has a right at the page
abbrev pub first_where : Bool → RecordId → Change → First → First
first_where has id change found = if has then first_with id change found else found

-- rights, with those of a frame as far from the page: they join them
abbrev pub joined_as_far : ℕ → Change → Rights → Rights
joined_as_far shift change rights = if change.shift == shift
    then union rights change.rights else rights

-- some record of the space has the right there, of the frame that is so far from the page
pub record HasAsFar (S : State) (changes : PageChanges) (space : Space) (page shift : ℕ)
    (right : Right) : Type 0 where
  pub id : RecordId
  pub live : IsLive S space page id
  pub far : (seen_in changes id page).shift ≡ shift
  pub has : includes (cached_in changes id page) right ≡ true

-- each of the rights is one that some record has of that frame
abbrev pub AreAsFar : State → PageChanges → Space → ℕ → ℕ → Rights → Type 0
AreAsFar S changes space page shift rights = (right : Right) → includes rights right ≡ true
    → HasAsFar S changes space page shift right

-- the record's rights are among these, if its frame is that one
abbrev pub IsJoined : PageChanges → ℕ → ℕ → Rights → RecordId → Type 0
IsJoined changes page shift rights id = (seen_in changes id page).shift ≡ shift
    → (right : Right) → includes (cached_in changes id page) right ≡ true
    → includes rights right ≡ true

-- these are all rights that records of the space have there of that frame
pub record IsAllAsFar (S : State) (changes : PageChanges) (space : Space) (page shift : ℕ)
    (rights : Rights) : Type 0 where
  pub found : AreAsFar S changes space page shift rights
  pub all : (id : RecordId) → IsLive S space page id → IsJoined changes page shift rights id

-- the record that was found has a right at the page of the space, and its frame is as far from the
-- page as is told; where all reach one frame, the rights are those that some have of it
pub record IsAlike (S : State) (changes : PageChanges) (space : Space) (page : ℕ) (id : RecordId)
    (change : Change) : Type 0 where
  pub live : IsLive S space page id
  pub far : (seen_in changes id page).shift ≡ change.shift
  pub rights : AreAsFar S changes space page change.shift change.rights

abbrev pub IsFirstFound : State → PageChanges → Space → ℕ → First → Type 0
IsFirstFound S changes space page Nothing = Unit {0}
IsFirstFound S changes space page (Alike id change) = IsAlike S changes space page id change
IsFirstFound S changes space page (Mixed id change) =
    IsLive S space page id × ((seen_in changes id page).shift ≡ change.shift)

-- the record does not come before the one that was found, and where all reach one frame, it reaches
-- this one, and its rights are among those
abbrev pub IsBehindFirst : PageChanges → ℕ → First → RecordId → Type 0
IsBehindFirst changes page Nothing id = ⊥
IsBehindFirst changes page (Alike first change) id = (is_before id first ≡ false)
    × ((seen_in changes id page).shift ≡ change.shift)
    × ((right : Right) → includes (cached_in changes id page) right ≡ true
    → includes change.rights right ≡ true)
IsBehindFirst changes page (Mixed first change) id = is_before id first ≡ false

-- the one that was found comes first of all that have a right there
pub record IsFirstOfAll (S : State) (changes : PageChanges) (space : Space) (page : ℕ)
    (first : First) : Type 0 where
  pub found : IsFirstFound S changes space page first
  pub all : (id : RecordId) → IsLive S space page id → IsBehindFirst changes page first id
