-- Who has which right at which page (Map, Unmap), and which frame is reached there, as relations.
-- The recursions of `Right` and `Frame` compute them.
use Rattle.std.specs.Prelude.{◌≡◌, ◌↔◌, ℕ, ◌<◌, Bool, true, false, Option, Some}
use Rattle.mapdb_fpage.specs.Bounds.{page_limit}
use Rattle.mapdb_fpage.specs.Place.{holds}
use Rattle.mapdb_fpage.specs.RightSets.{includes}
use Rattle.mapdb_fpage.specs.declared.right_sets.Right.{Right}
use Rattle.mapdb_facts.specs.Names.{is_root}
use Rattle.mapdb_facts.specs.State.{State}
use Rattle.mapdb_facts.specs.declared.names.RecordId.{RecordId}
use Rattle.mapdb_facts.specs.declared.operations.Record.{Record}
use Rattle.mapdb_rights.specs.Frame.{frame_at}
use Rattle.mapdb_rights.specs.Right.{has_right, source_page}

-- the held record of this name hands the right on at the page, if its parent has it
pub record HandsOn (S : State) (id : RecordId) (r : Record) (page : ℕ) (right : Right) : Type 0
  where
    pub held : S.record_at id ≡ Some r
    pub in_place : holds r.place page ≡ true
    pub named : includes r.rights right ≡ true
    pub not_revoked : S.is_cut id page right ≡ false
    pub space_lives : S.is_ended r.space ≡ false
    pub parent_is_before : r.parent.number < id.number

-- The root has each right that is not revoked, at each page of the space. A record has a right at a
-- page where it hands it on, and its parent has it at the source page.
pub record SaysWhoHas (S : State) (has : RecordId → ℕ → Right → Bool) : Type 0 where
  pub root : (id : RecordId) (page : ℕ) (right : Right) → is_root id ≡ true
      → (has id page right ≡ true) ↔ ((page < page_limit) × (S.is_cut id page right ≡ false))
  pub child : (id : RecordId) (page : ℕ) (right : Right) → is_root id ≡ false
      → (has id page right ≡ true)
      ↔ ((r : Record) × HandsOn S id r page right
      × (has r.parent (source_page r page) right ≡ true))

-- the recursion says who has which right, and whatever says it is the same
abbrev pub OneRelationSaysWhoHas : Type 0
OneRelationSaysWhoHas =
    (S : State) → SaysWhoHas S (has_right S)
    × ((has : RecordId → ℕ → Right → Bool) → SaysWhoHas S has
    → (id : RecordId) (page : ℕ) (right : Right) → has id page right ≡ has_right S id page right)

-- the held record of this name leads from the page to its parent
pub record LeadsOn (S : State) (id : RecordId) (r : Record) (page : ℕ) : Type 0 where
  pub held : S.record_at id ≡ Some r
  pub in_place : holds r.place page ≡ true
  pub parent_is_before : r.parent.number < id.number

-- The root reaches each page of the space as its own frame. A record reaches the frame at a page
-- where it leads to its parent, and its parent reaches that frame at the source page.
pub record SaysFrames (S : State) (reached : RecordId → ℕ → Option ℕ) : Type 0 where
  pub root : (id : RecordId) (page frame : ℕ) → is_root id ≡ true
      → (reached id page ≡ Some frame) ↔ ((page < page_limit) × (frame ≡ page))
  pub child : (id : RecordId) (page frame : ℕ) → is_root id ≡ false
      → (reached id page ≡ Some frame)
      ↔ ((r : Record) × LeadsOn S id r page
      × (reached r.parent (source_page r page) ≡ Some frame))

-- the recursion says which frame is reached, and whatever says it is the same
abbrev pub OneRelationSaysFrames : Type 0
OneRelationSaysFrames =
    (S : State) → SaysFrames S (frame_at S)
    × ((reached : RecordId → ℕ → Option ℕ) → SaysFrames S reached
    → (id : RecordId) (page : ℕ) → reached id page ≡ frame_at S id page)
