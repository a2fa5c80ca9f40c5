-- Values by name where no list of the names is kept: by the places at which they stand.
use Rattle.std.specs.Prelude.{◌≡◌, ◌<◌, ℕ, suc, List, [], ◌∷◌, ◌++◌, map, Option, Some, None}
use Rattle.std.specs.Prelude.{slice_get}
use Rattle.std.specs.Global.{Vec}
use Rattle.std.specs.Map.{lookup}
use Rattle.mapdb_facts.specs.Names.{same_id}
use Rattle.mapdb_facts.specs.NamePlaces.{HaveFewLists, place_in}
use Rattle.mapdb_facts.specs.NamedValues.{NamedValues}
use Rattle.mapdb_facts.specs.declared.name_places.NamePlaces.{NamePlaces}
use Rattle.mapdb_facts.specs.declared.names.RecordId.{RecordId}

-- a name with its value, where it has one, in front of the rest
abbrev pub with_value : {K V : Type 0} → K → Option V → List (K × V) → List (K × V)
with_value id None rest = rest
with_value id (Some value) rest = (id, value) ∷ rest

-- names with their values, without those that have none
abbrev pub with_values : {K V : Type 0} → (K → Option V) → List K → List (K × V)
with_values value [] = []
with_values value (id ∷ ids) = with_value id (value id) (with_values value ids)

-- the names of a processor, from a number on, for which there are words
abbrev pub worded : ℕ → ℕ → List ℕ → List RecordId
worded processor number [] = []
worded processor number (word ∷ words) =
    record { number = number; processor = processor } ∷ worded processor (suc number) words

-- the names of all processors from one on for which there are words
abbrev pub near_names : ℕ → List (Vec ℕ) → List RecordId
near_names processor [] = []
near_names processor (words ∷ near) =
    worded processor 0 words.items ++ near_names (suc processor) near

-- all names that may have a place: those for which there are words, and the far ones
abbrev pub known_names : NamePlaces → List RecordId
known_names places = near_names 0 places.near.items ++ map (λ e. e.0) places.far.entries

-- the value at a place, where there is one
abbrev pub value_at : {V : Type 0} → List V → Option ℕ → Option V
value_at values None = None
value_at values (Some at) = slice_get values at

-- the value of a name: what stands at its place
abbrev pub value_in : {V : Type 0} → NamePlaces → List V → RecordId → Option V
value_in places values id = value_at values (place_in places id)

-- the names that have values, with them
abbrev pub by_places : {V : Type 0} → NamePlaces → List V → NamedValues V
by_places places values = record {
  entries = with_values (value_in places values) (known_names places);
}

-- each place is below the count, and is one name's alone
pub record IsOneToOne {K : Type 0} (place : K → Option ℕ) (count : ℕ) : Type 0 where
  pub below : (id : K) (at : ℕ) → place id ≡ Some at → at < count
  pub apart : (a b : K) (at : ℕ) → place a ≡ Some at → place b ≡ Some at → a ≡ b

-- the names' places are so, in few lists
pub record ArePlacesBelow (places : NamePlaces) (count : ℕ) : Type 0 where
  pub each : IsOneToOne (place_in places) count
  pub few : HaveFewLists places.near.items

-- each name has the value that it had
abbrev pub HasSameValues : {V : Type 0} → NamedValues V → NamedValues V → Type 0
HasSameValues old new = (id : RecordId)
    → lookup (same_id id) new.entries ≡ lookup (same_id id) old.entries
