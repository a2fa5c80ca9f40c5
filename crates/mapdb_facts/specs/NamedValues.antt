-- Values by the name of a record, and where a name stands among those that came.
use Rattle.std.specs.Prelude.{◌≡◌, ℕ, suc, List, [], ◌∷◌, Option, Some, None, option_map}
use Rattle.std.specs.Prelude.{if◌then◌else◌, ◌++◌, map}
use Rattle.std.specs.List.{All, zip}
use Rattle.std.specs.Map.{lookup}
use Rattle.mapdb_facts.specs.Names.{same_id}
use Rattle.mapdb_facts.specs.declared.names.RecordId.{RecordId}
use Rattle.mapdb_facts.specs.declared.operations.Record.{Record}

-- the names with their values, in the order in which the names came
pub record NamedValues (V : Type 0) : Type 0 where
  pub entries : List (RecordId × V)

-- the values beside their names
abbrev pub named : {V : Type 0} → List RecordId → List V → NamedValues V
named names values = record { entries = zip names values }

-- records beside their names, each under its own
abbrev pub by_own_name : List Record → NamedValues Record
by_own_name records = named (map (λ r. r.id) records) records

-- each record is found by its name
abbrev pub AreFoundByName : List Record → Type 0
AreFoundByName records =
    All (λ r. lookup (same_id r.id) (by_own_name records).entries ≡ Some r) records

-- the place of a name among those that came, where it is one of them
abbrev pub place_of : RecordId → List RecordId → Option ℕ
place_of id [] = None
place_of id (name ∷ names) =
    if same_id id name then Some 0 else option_map suc (place_of id names)

-- one name has the value, and each other name the one that it had
abbrev pub IsInserted : {V : Type 0} → NamedValues V → RecordId → V → NamedValues V → Type 0
IsInserted old id value new = (q : RecordId) → lookup (same_id q) new.entries
    ≡ (if same_id id q then Some value else lookup (same_id q) old.entries)

-- the names that have values, in the order in which they came
abbrev pub names_of : {V : Type 0} → NamedValues V → List RecordId
names_of a = map (λ e. e.0) a.entries

-- the names with one that has this place among them, or with one more behind them
abbrev pub names_placed : List RecordId → RecordId → Option ℕ → List RecordId
names_placed names id (Some at) = names
names_placed names id None = names ++ id ∷ []

-- the names with this one, at the end where it is new
abbrev pub with_name : List RecordId → RecordId → List RecordId
with_name names id = names_placed names id (place_of id names)
