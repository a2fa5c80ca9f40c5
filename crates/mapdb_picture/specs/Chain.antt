-- The chain from a page of a record to its frame: the page, the page of the parent that it comes
-- from, and so on up to the root, or up to where that is not held or does not reach.
use Rattle.std.specs.Prelude.{ℕ, zero, suc, List, [], ◌∷◌, Option, Some, None, if◌then◌else◌}
use Rattle.mapdb_facts.specs.Names.{is_root}
use Rattle.mapdb_facts.specs.State.{State}
use Rattle.mapdb_facts.specs.declared.names.RecordId.{RecordId}
use Rattle.mapdb_facts.specs.declared.operations.Record.{Record}
use Rattle.mapdb_rights.specs.Right.{reaches, source_page}
use Rattle.mapdb_picture.specs.declared.steps.Spot.{Spot}

-- the page of the parent that a page of the record comes from, where it lies in the record
abbrev pub source_in : RecordId → Option Record → ℕ → Option Spot
source_in id None page = None
source_in id (Some r) page =
    if reaches id r page then Some (record { id = r.parent; page = source_page r page }) else None

-- one step up: none from the root, and none where the record is not held or does not have the page
abbrev pub step_up : State → Spot → Option Spot
step_up S spot =
    if is_root spot.id then None else source_in spot.id (S.record_at spot.id) spot.page

-- a page, and the chain from its source on
abbrev pub chained : (Spot → List Spot) → Spot → Option Spot → List Spot
chained rest spot None = spot ∷ []
chained rest spot (Some source) = spot ∷ rest source

abbrev pub chain_within : ℕ → State → Spot → List Spot
chain_within zero S spot = chained (λ _. []) spot (step_up S spot)
chain_within (suc steps) S spot = chained (chain_within steps S) spot (step_up S spot)

-- The chain from a page on. Each parent has a lesser number than its child, so there are no more
-- steps than the number.
unfoldable pub chain : State → Spot → List Spot
chain S spot = chain_within spot.id.number S spot
