-- The records of a space that have a right at a page, from one to the next.
use Rattle.std.specs.Prelude.{◌≡◌, ℕ, ◌+◌, ◌<◌, Bool, true, false, ◌&&◌, not, Option, Some, None}
use Rattle.std.specs.Prelude.{List, [], ◌∷◌, ◌++◌, filter, map, if◌then◌else◌}
use Rattle.mapdb_fpage.specs.RightSets.{is_empty}
use Rattle.mapdb_facts.specs.Names.{is_after, is_before, is_first_space, root, same_space}
use Rattle.mapdb_facts.specs.State.{State}
use Rattle.mapdb_facts.specs.declared.names.RecordId.{RecordId}
use Rattle.mapdb_facts.specs.declared.names.Space.{Space}
use Rattle.mapdb_facts.specs.declared.operations.Record.{Record}
use Rattle.mapdb_rights.specs.Frame.{frame_at}
use Rattle.mapdb_rights.specs.PageRights.{is_into}
use Rattle.mapdb_rights.specs.Right.{rights_at}
use Rattle.mapdb_rights.specs.Steady.{frame_on}

-- the record is one of the space, and has a right at the page
pub record IsLive (S : State) (space : Space) (page : ℕ) (id : RecordId) : Type 0 where
  pub into : is_into S space id ≡ true
  pub has_some : is_empty (rights_at S id page) ≡ false

-- the least of these above another name, or of all
pub record IsNextLive (S : State) (space : Space) (page : ℕ) (after : Option RecordId)
    (id : RecordId) : Type 0 where
  pub live : IsLive S space page id
  pub above : is_after after id ≡ true
  pub least : (other : RecordId) → IsLive S space page other → is_after after other ≡ true
      → is_before other id ≡ false

-- that one, where there is one
abbrev pub IsLiveFrom : State → Space → ℕ → Option RecordId → Option RecordId → Type 0
IsLiveFrom S space page after None = (id : RecordId) → IsLive S space page id
    → is_after after id ≡ false
IsLiveFrom S space page after (Some id) = IsNextLive S space page after id

-- the root's name, where the root is of the space and has a right at the page
abbrev pub live_root : State → Space → ℕ → List RecordId
live_root S space page = if is_first_space space
    && not (is_empty (rights_at S root page)) then root ∷ [] else []

-- the record is one of the space, and has a right at the page
abbrev pub is_live_record : State → Space → ℕ → Record → Bool
is_live_record S space page r = same_space r.space space && not (is_empty (rights_at S r.id page))

-- of the root and then a list of records, the names of those of the space that have a right at the
-- page
abbrev pub live_names : State → List Record → Space → ℕ → List RecordId
live_names S records space page = live_root S space page
    ++ map (λ r. r.id) (filter (is_live_record S space page) records)

-- so many pages on, the record has the same rights, and if it has some, the frame that lies as far
-- on
pub record ShowsOn (S : State) (id : RecordId) (page count : ℕ) : Type 0 where
  pub rights : rights_at S id (page + count) ≡ rights_at S id page
  pub frame : is_empty (rights_at S id page) ≡ false
      → frame_at S id (page + count) ≡ frame_on count (frame_at S id page)

-- all records of the space go on so at each page up to the end
abbrev pub ShowUntil : State → Space → ℕ → ℕ → Type 0
ShowUntil S space page end = (id : RecordId) → is_into S space id ≡ true → (count : ℕ)
    → page + count < end → ShowsOn S id page count
