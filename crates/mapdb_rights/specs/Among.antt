-- The least name above another among some, and the records of a space that show at a page.
use Rattle.std.specs.Prelude.{◌≡◌, ℕ, Bool, true, false, ◌&&◌, not, Option, Some, None}
use Rattle.std.specs.Prelude.{if◌then◌else◌}
use Rattle.std.specs.declared.ops.Bound.{Bound}
use Rattle.std.specs.declared.ops.Bound.TheVariants.{Excluded, Included}
use Rattle.mapdb_fpage.specs.RightSets.{is_empty}
use Rattle.mapdb_facts.specs.Names.{is_after, is_before, is_root, root}
use Rattle.mapdb_facts.specs.State.{State}
use Rattle.mapdb_facts.specs.declared.names.RecordId.{RecordId}
use Rattle.mapdb_facts.specs.declared.names.Space.{Space}
use Rattle.mapdb_lists.specs.declared.places.Listed.{Listed}
use Rattle.mapdb_lists.specs.declared.places.Places.{Places}
use Rattle.mapdb_lists.specs.Listing.{is_listed}
use Rattle.mapdb_rights.specs.Live.{IsLive}
use Rattle.mapdb_rights.specs.PageRights.{is_record_into}
use Rattle.mapdb_rights.specs.Right.{rights_at}

-- a name that is sound, above another, with none of the sought ones above the other before it
pub record IsLeastName (Sound Sought : RecordId
    → Type 0) (after : Option RecordId) (id : RecordId) : Type 0 where
  pub sound : Sound id
  pub above : is_after after id ≡ true
  pub least : (other : RecordId) → Sought other → is_after after other ≡ true
      → is_before other id ≡ false

-- that one, where there is one
abbrev pub IsLeastOf : (RecordId → Type 0) → (RecordId → Type 0) → Option RecordId
    → Option RecordId → Type 0
IsLeastOf Sound Sought after None = (id : RecordId) → Sought id → is_after after id ≡ false
IsLeastOf Sound Sought after (Some id) = IsLeastName Sound Sought after id

-- the lesser of two names
abbrev pub lesser : Option RecordId → Option RecordId → Option RecordId
lesser None b = b
lesser (Some a) None = Some a
lesser (Some a) (Some b) = if is_before b a then Some b else Some a

-- the entry at the place of another, under this name
abbrev pub under : Listed → RecordId → Listed
under place id = record { owner = place.owner; order = place.order; first = place.first; id = id }

-- where those at the place begin whose names come after another, where there is one
abbrev pub behind_name : Listed → Option RecordId → Bound Listed
behind_name place None = Included (under place root)
behind_name place (Some id) = Excluded (under place id)

-- the name stands at the place
abbrev pub StandsAt : Places → Listed → RecordId → Type 0
StandsAt set place id = is_listed set (under place id) ≡ true

-- the name is that of a record into the space with a right at the page
abbrev pub is_shown : State → Space → ℕ → RecordId → Bool
is_shown S space page id = is_record_into (S.record_at id) space
    && not (is_empty (rights_at S id page))

abbrev pub IsShown : State → Space → ℕ → RecordId → Type 0
IsShown S space page id = is_shown S space page id ≡ true

-- such a name that stands at the place
abbrev pub IsShownAt : Places → State → Space → ℕ → Listed → RecordId → Type 0
IsShownAt set S space page place id = StandsAt set place id × IsShown S space page id

-- the root, where it has a right at the page of its space
abbrev pub IsLiveRoot : State → Space → ℕ → RecordId → Type 0
IsLiveRoot S space page id = IsLive S space page id × (is_root id ≡ true)
