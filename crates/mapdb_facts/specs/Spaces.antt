-- Lists of spaces in ascending order, by number and then by version.
use Rattle.std.specs.Prelude.{List, [], ◌∷◌, if◌then◌else◌}
use Rattle.mapdb_facts.specs.declared.names.RecordId.{RecordId}
use Rattle.mapdb_facts.specs.declared.names.Space.{Space}
use Rattle.mapdb_facts.specs.Names.{is_space_before, same_space}

-- the space at its place among spaces in ascending order
abbrev pub placed_space : Space → List Space → List Space
placed_space space [] = space ∷ []
placed_space space (other ∷ rest) =
    if is_space_before other space then other ∷ placed_space space rest
    else (if same_space space other then other ∷ rest else space ∷ other ∷ rest)

-- spaces are ordered as the names with their numbers and versions
abbrev pub numbered : Space → RecordId
numbered space = record { number = space.number; processor = space.version }
