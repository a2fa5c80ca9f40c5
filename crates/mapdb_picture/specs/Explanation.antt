-- Why a page of a space has the rights and frames that it has: for each record that holds the page,
-- the chain from it to the frame, with what each of its records names and what is revoked of it
-- there.
use Rattle.std.specs.Prelude.{ℕ, ◌&&◌, List, [], ◌∷◌, ◌++◌, Option, Some, None, codes, flat_map}
use Rattle.std.specs.Prelude.{if◌then◌else◌}
use Rattle.mapdb_fpage.specs.Place.{holds, is_page}
use Rattle.mapdb_fpage.specs.RightSets.{text_of}
use Rattle.mapdb_fpage.specs.declared.right_sets.Rights.{Rights}
use Rattle.mapdb_facts.specs.Adding.{cut_at}
use Rattle.mapdb_facts.specs.Names.{first_space, is_first_space, is_root, root, same_space}
use Rattle.mapdb_facts.specs.Records.{records_of}
use Rattle.mapdb_facts.specs.State.{State, state_of}
use Rattle.mapdb_facts.specs.declared.names.RecordId.{RecordId}
use Rattle.mapdb_facts.specs.declared.names.Space.{Space}
use Rattle.mapdb_facts.specs.declared.operations.Op.{Op}
use Rattle.mapdb_facts.specs.declared.operations.Record.{Record}
use Rattle.mapdb_rights.specs.Right.{source_page}
use Rattle.mapdb_picture.specs.Chain.{chain}
use Rattle.mapdb_picture.specs.Labels.{held_text, place_text, source_text}
use Rattle.mapdb_lines.specs.Shown.{frame_text, name_text, space_text}
use Rattle.mapdb_picture.specs.declared.steps.Spot.{Spot}

-- a space, and whether it has ended
abbrev pub space_state : State → Space → List ℕ
space_state S space =
    codes "space " ++ (space_text space ++ (if S.is_ended space then codes " ended" else []))

-- a record, its space, and the page
abbrev pub spot_text : State → RecordId → Space → ℕ → List ℕ
spot_text S id space page =
    name_text id ++ (codes " " ++ (space_state S space ++ (codes " page " ++ frame_text page)))

-- the rights that are named, and what is revoked of them at a page
abbrev pub allowed_text : Rights → Rights → List ℕ
allowed_text named revoked =
    codes " names " ++ (text_of named ++ (codes " revoked " ++ text_of revoked))

-- the page of a record that has it
abbrev pub inside_text : State → RecordId → Record → ℕ → List ℕ
inside_text S id r page = spot_text S id r.space page
    ++ (allowed_text r.rights (cut_at S id page)
    ++ (codes " " ++ source_text r.parent (source_page r page)))

-- the page lies outside of the record's place, where the chain ends
abbrev pub outside_text : State → RecordId → Record → ℕ → List ℕ
outside_text S id r page = spot_text S id r.space page ++ (codes " outside " ++ place_text r.place)

-- a page of this name, where a record of the name may be held
abbrev pub record_step : State → RecordId → Option Record → ℕ → List ℕ
record_step S id None page =
    name_text id ++ (codes " page " ++ (frame_text page ++ codes " not held"))
record_step S id (Some r) page =
    if holds r.place page then inside_text S id r page else outside_text S id r page

-- the frame, as a page of the first space
abbrev pub root_step : State → RecordId → ℕ → List ℕ
root_step S id page =
    spot_text S id first_space page ++ (codes " revoked " ++ text_of (cut_at S id page))

-- what a step of a chain tells
abbrev pub step_text : State → Spot → List ℕ
step_text S spot =
    if is_root spot.id then root_step S spot.id spot.page
    else record_step S spot.id (S.record_at spot.id) spot.page

-- a step as a line
abbrev pub step_line : State → Spot → List ℕ
step_line S spot = codes "  " ++ (step_text S spot ++ codes "\n")

-- the lines of a chain
abbrev pub chain_text : State → Spot → List ℕ
chain_text S spot = flat_map (step_line S) (chain S spot)

-- a record, its chain, and what comes of it
abbrev pub block : State → RecordId → ℕ → List ℕ
block S id page =
    codes "record " ++ (name_text id ++ (codes "\n"
    ++ (chain_text S (record { id = id; page = page }) ++ (held_text S id page ++ codes "\n"))))

-- of a record of the space that holds the page, its block
abbrev pub block_of : State → Space → ℕ → Record → List ℕ
block_of S space page r =
    if same_space r.space space && holds r.place page then block S r.id page else []

-- the root's block, at a page of the first space
abbrev pub root_block : State → Space → ℕ → List ℕ
root_block S space page = if is_first_space space && is_page page then block S root page else []

-- what is told where no record holds the page
abbrev pub or_nothing : List ℕ → List ℕ
or_nothing [] = codes "nothing\n"
or_nothing (c ∷ cs) = c ∷ cs

-- the blocks of the root and then of records in ascending order
abbrev pub explanation_of : State → List Record → Space → ℕ → List ℕ
explanation_of S records space page =
    or_nothing (root_block S space page ++ flat_map (block_of S space page) records)

-- why the page of the space has what it has, by what these operations say together
abbrev pub explanation_text : List Op → Space → ℕ → List ℕ
explanation_text ops space page = explanation_of (state_of ops) (records_of ops) space page
