-- Where names stand: near ones by their processor and number, far ones in a map.
use Rattle.std.specs.Prelude.{◌≡◌, ◌==◌, ◌-◌, ◌<◌, ◌≤◌, ◌⊎◌, ℕ, List, [], length, slice_get}
use Rattle.std.specs.Prelude.{slice_index, Option, Some, None, if◌then◌else◌}
use Rattle.std.specs.Global.{Vec}
use Rattle.std.specs.BTreeMap.{is_at}
use Rattle.std.specs.Map.{lookup}
use Rattle.mapdb_facts.specs.Kept.{id_cmp}
use Rattle.mapdb_facts.specs.Names.{number_limit, processor_limit}
use Rattle.mapdb_facts.specs.declared.names.RecordId.{RecordId}
use Rattle.mapdb_facts.specs.NamedValues.{place_of}
use Rattle.mapdb_facts.specs.declared.name_places.NamePlaces.{NamePlaces}

-- the words of a list, where there is one
abbrev pub words_in : Option (Vec ℕ) → List ℕ
words_in None = []
words_in (Some words) = words.items

-- the word of a name among those of its processor: 0 where it has none
abbrev pub near_word : List (Vec ℕ) → RecordId → ℕ
near_word near id = slice_index (words_in (slice_get near id.processor)) id.number

-- the place of a name: a word is the place and one
abbrev pub place_in : NamePlaces → RecordId → Option ℕ
place_in places id =
    if near_word places.near.items id == 0 then lookup (is_at (id_cmp id)) places.far.entries
    else Some (near_word places.near.items id - 1)

-- no list goes on to a number at the limit
abbrev pub AreShort : List (Vec ℕ) → Type 0
AreShort near = (p : ℕ) → length (words_in (slice_get near p)) ≤ number_limit

-- there are lists of near names for processors below the limit alone, and for numbers below theirs
abbrev pub HaveFewLists : List (Vec ℕ) → Type 0
HaveFewLists near = (length near ≤ processor_limit) × AreShort near

-- each name has the place at which it stands, and no other has one
pub record ArePlacesOf (places : NamePlaces) (names : List RecordId) : Type 0 where
  pub found : (id : RecordId) → place_in places id ≡ place_of id names
  pub few : HaveFewLists places.near.items

-- a name has a greater number, or this number and a processor that is not below the first
abbrev pub IsFrom : ℕ → ℕ → RecordId → Type 0
IsFrom number first id = (number < id.number) ⊎ ((number ≡ id.number) × (first ≤ id.processor))
