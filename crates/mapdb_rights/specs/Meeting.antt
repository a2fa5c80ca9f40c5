-- The records whose places, or whose sources, share pages with a place.
use Rattle.std.specs.Prelude.{◌≡◌, Bool, ◌&&◌, false, true, List, filter, Option, None, Some}
use Rattle.std.specs.Prelude.{is_some, if◌then◌else◌}
use Rattle.mapdb_fpage.specs.Place.{Place, from_page, meet}
use Rattle.mapdb_facts.specs.Looking.{Holds}
use Rattle.mapdb_facts.specs.Names.{same_id, same_space}
use Rattle.mapdb_facts.specs.State.{State}
use Rattle.mapdb_facts.specs.declared.names.RecordId.{RecordId}
use Rattle.mapdb_facts.specs.declared.names.Space.{Space}
use Rattle.mapdb_facts.specs.declared.operations.Record.{Record}
pub use Rattle.mapdb_lists.specs.Standing.{is_named}
use Rattle.mapdb_lists.specs.declared.places.Owner.{Owner}
use Rattle.mapdb_lists.specs.declared.places.Owner.TheVariants as owners

-- the place of the parent's space that a record's pages come from
abbrev pub source_place : Record → Place
source_place r = from_page r.place r.source

-- the record is one of the space, and its place shares pages with this one
abbrev pub holds_part : Space → Place → Record → Bool
holds_part space part r = same_space r.space space && is_some (meet r.place part)

-- the record is a child of this name, and its source shares pages with this place
abbrev pub takes_part : RecordId → Place → Record → Bool
takes_part parent part r = same_id r.parent parent && is_some (meet (source_place r) part)

-- of a list of records, those of a space whose places share pages with this one
abbrev pub holders_of : List Record → Space → Place → List Record
holders_of records space part = filter (holds_part space part) records

-- of a list of records, the children of a name whose sources share pages with this place
abbrev pub children_of : List Record → RecordId → Place → List Record
children_of records parent part = filter (takes_part parent part) records

-- the record shares pages with the place where it is the owner's: a space's by its place, a
-- record's by its source
abbrev pub shares_part : Owner → Place → Record → Bool
shares_part (owners.Space space) part r = holds_part space part r
shares_part (owners.Record parent) part r = takes_part parent part r

-- the record that a name finds, where it passes
abbrev pub record_if : (Record → Bool) → Option Record → Option Record
record_if test None = None
record_if test (Some r) = if test r then Some r else None

-- a held record that is the owner's and shares pages with the place, and is not among these names
pub record IsUnnamed (S : State) (names : List RecordId) (owner : Owner) (part : Place) (r : Record)
    : Type 0 where
  pub held : Holds S r
  pub shares : shares_part owner part r ≡ true
  pub out : is_named names r.id ≡ false
