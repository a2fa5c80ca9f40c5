-- Values by space: by the places at which they stand, which numbers tell of most spaces.
use Rattle.std.specs.Prelude.{◌≡◌, ◌++◌, ℕ, zero, suc, List, map, Option, Some, None}
use Rattle.std.specs.Prelude.{if◌then◌else◌, length, slice_get, slice_index}
use Rattle.std.specs.Map.{lookup}
use Rattle.mapdb_facts.specs.ByName.{IsOneToOne, value_at, with_values}
use Rattle.mapdb_facts.specs.Names.{same_space}
use Rattle.mapdb_facts.specs.declared.names.Space.{Space}
use Rattle.mapdb_lists.specs.declared.space_places.SpacePlaces.{SpacePlaces}

-- the place, where this is the space that stands there
abbrev pub place_if : Option Space → ℕ → Space → Option ℕ
place_if None at space = None
place_if (Some other) at space = if same_space other space then Some at else None

-- the place that a word tells of a space: a word is the place and one, or 0
abbrev pub told_place : List Space → ℕ → Space → Option ℕ
told_place spaces zero space = None
told_place spaces (suc at) space = place_if (slice_get spaces at) at space

-- the place of a space, where the word of its number tells it
abbrev pub near_place : List ℕ → List Space → Space → Option ℕ
near_place near spaces space = told_place spaces (slice_index near space.number) space

-- the first of two places that is there
abbrev pub or_place : Option ℕ → Option ℕ → Option ℕ
or_place None other = other
or_place (Some at) other = Some at

-- the place of a space: the near one, or else the far one
abbrev pub found_place : List ℕ → List Space → List (Space × ℕ) → Space → Option ℕ
found_place near spaces far space =
    or_place (near_place near spaces space) (lookup (same_space space) far)

abbrev pub space_place : SpacePlaces → Space → Option ℕ
space_place places space =
    found_place places.near.items places.spaces.items places.far.entries space

-- each word tells of a space with its number
abbrev pub AreWordsOf : List ℕ → List Space → Type 0
AreWordsOf near spaces = (number at : ℕ) → slice_index near number ≡ suc at
    → (space : Space) × (slice_get spaces at ≡ Some space) × (space.number ≡ number)

-- all spaces that may have a place
abbrev pub known_spaces : SpacePlaces → List Space
known_spaces places = places.spaces.items ++ map (λ e. e.0) places.far.entries

-- spaces with their values
pub record ValuesBySpace (V : Type 0) : Type 0 where
  pub entries : List (Space × V)

-- the spaces that have values, with them
abbrev pub at_places : {V : Type 0} → SpacePlaces → List V → ValuesBySpace V
at_places places values = record {
  entries = with_values (λ space. value_at values (space_place places space)) (known_spaces places);
}

-- each value is one space's alone, and there are as many spaces
pub record AreByPlace (places : SpacePlaces) (count : ℕ) : Type 0 where
  pub each : IsOneToOne (space_place places) count
  pub words : AreWordsOf places.near.items places.spaces.items
  pub all : length places.spaces.items ≡ count
