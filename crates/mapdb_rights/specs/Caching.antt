-- Rights that are kept beside a state, by name and page.
use Rattle.std.specs.Prelude.{◌≡◌, ℕ, true, false, ◌⊎◌, Some, if◌then◌else◌}
use Rattle.mapdb_fpage.specs.Bounds.{page_limit}
use Rattle.mapdb_fpage.specs.Place.{holds}
use Rattle.mapdb_fpage.specs.RightSets.{includes, is_empty, rights_where}
use Rattle.mapdb_fpage.specs.declared.right_sets.Rights.{Rights}
use Rattle.mapdb_fpage.specs.RightSets.{same_rights}
use Rattle.mapdb_facts.specs.Names.{same_id, same_space}
use Rattle.mapdb_facts.specs.State.{State, join, said}
use Rattle.mapdb_facts.specs.declared.names.RecordId.{RecordId}
use Rattle.mapdb_facts.specs.declared.operations.Op.{Op}
use Rattle.mapdb_facts.specs.declared.operations.Op.TheVariants.{Born, Closed, Cut}
use Rattle.mapdb_facts.specs.declared.operations.Record.{Record}
use Rattle.mapdb_lists.specs.Changes.{Cached, covers}
use Rattle.mapdb_rights.specs.Frame.{frame_at}
use Rattle.mapdb_rights.specs.Right.{reaches, right_by, rights_at, source_page}

-- The cached rights stand for the state: at each page of each name they are the rights of that
-- record there.
abbrev pub AreRights : State → Cached → Type 0
AreRights S cached = (id : RecordId) (page : ℕ) → cached id page ≡ rights_at S id page

-- what a record has at a page, if its parent has there what is cached
abbrev pub rights_from : Cached → State → RecordId → ℕ → Rights
rights_from cached S id page =
    rights_where (right_by page_limit (λ q s right. includes (cached q s) right) S id page)

-- the cached rights of the name at the page follow from those of its parent
abbrev pub IsSettled : State → Cached → RecordId → ℕ → Type 0
IsSettled S cached id page = cached id page ≡ rights_from cached S id page

-- Rights that follow from the parents' everywhere are the rights.
abbrev pub SettledIsExact : Type 0
SettledIsExact = (S : State) (cached : Cached)
    → ((id : RecordId) (page : ℕ) → IsSettled S cached id page) → AreRights S cached

-- the pages of a record where an operation may change what follows from its parent
abbrev pub Unsettles : State → Op → RecordId → ℕ → Type 0
Unsettles S (Born r) id page = (same_id r.id id ≡ true) × (holds r.place page ≡ true)
Unsettles S (Cut cut) id page = (same_id cut.target id ≡ true) × (holds cut.part page ≡ true)
Unsettles S (Closed space) id page =
    (r : Record) × (S.record_at id ≡ Some r) × (same_space space r.space ≡ true)
    × (is_empty (rights_at S id page) ≡ false)

-- Cached rights that stood for the state follow, after an operation, from the parents' but where it
-- unsettles.
abbrev pub OperationsUnsettle : Type 0
OperationsUnsettle =
    (S : State) (op : Op) (cached : Cached) → AreRights S cached
    → (id : RecordId) (page : ℕ)
    → IsSettled (join S (said op)) cached id page ⊎ Unsettles S op id page

-- over these pages of the record the rights are taken anew from the parent's, elsewhere they stay
abbrev pub IsTakenAnew : State → Cached → RecordId → ℕ → ℕ → Cached → Type 0
IsTakenAnew S cached id first end new =
    (other : RecordId) (page : ℕ) → new other page
    ≡ (if covers id first end other page then rights_from cached S other page
    else cached other page)

-- a page whose source page, which lies in the parent, has other rights than before
abbrev pub HasOtherSource : State → Cached → Cached → RecordId → ℕ → Type 0
HasOtherSource S cached new id page =
    (r : Record) × (S.record_at id ≡ Some r) × (reaches id r page ≡ true)
    × (same_rights (new r.parent (source_page r page)) (cached r.parent (source_page r page))
    ≡ false)

-- What followed from the parents' before still does, and what is taken anew does, but where a
-- source page has other rights.
abbrev pub SettlingUnsettlesChildren : Type 0
SettlingUnsettlesChildren =
    (S : State) (cached new : Cached) (id : RecordId) (first end : ℕ)
    → IsTakenAnew S cached id first end new
    → (other : RecordId) (page : ℕ) → IsSettled S cached other page
    ⊎ (covers id first end other page ≡ true)
    → IsSettled S new other page ⊎ HasOtherSource S cached new other page

-- A frame that is reached once stays, whatever else is said: what is cached of it is never stale.
abbrev pub FramesStay : Type 0
FramesStay = (S T : State) (id : RecordId) (page frame : ℕ) → frame_at S id page ≡ Some frame
    → frame_at (join S T) id page ≡ Some frame
