-- Which records have their sources listed: those that are held, but for what is revoked; and no
-- other record has a source or a place listed.
use Rattle.std.specs.Prelude.{◌≡◌, ◌⊎◌, true}
use Rattle.mapdb_fpage.specs.Place.{IsPlace}
use Rattle.mapdb_facts.specs.Looking.{Holds}
use Rattle.mapdb_facts.specs.State.{State}
use Rattle.mapdb_facts.specs.declared.operations.Record.{Record}
use Rattle.mapdb_lists.specs.Listing.{is_listed}
use Rattle.mapdb_lists.specs.declared.places.Listed.{Listed}
use Rattle.mapdb_lists.specs.declared.places.Owner.{Owner}
use Rattle.mapdb_lists.specs.declared.places.Owner.TheVariants as owners
use Rattle.mapdb_lists.specs.declared.places.Places.{Places}
use Rattle.mapdb_rights.specs.Revoked.{IsRevoked}

-- a record's place stands under its space
abbrev pub place_of : Record → Listed
place_of r = record {
  owner = owners.Space r.space;
  order = r.place.order;
  first = r.place.first_page;
  id = r.id;
}

-- a record's source stands under its parent
abbrev pub source_of : Record → Listed
source_of r = record {
  owner = owners.Record r.parent;
  order = r.place.order;
  first = r.source;
  id = r.id;
}

-- its source stands there, and its place is one
pub record HasSource (set : Places) (r : Record) : Type 0 where
  pub by_parent : is_listed set (source_of r) ≡ true
  pub place : IsPlace r.place

-- its source stands there, unless it is revoked, and its place is one
pub record IsListed (S : State) (set : Places) (r : Record) : Type 0 where
  pub by_parent : IsRevoked S r ⊎ (is_listed set (source_of r) ≡ true)
  pub place : IsPlace r.place

-- each record that is held is listed, as far as it is not revoked, whether its parent is held or
-- not
abbrev pub HasSources : State → Places → Type 0
HasSources S set = (r : Record) → Holds S r → IsListed S set r

-- of a record its place, where the owner is a space, and else its source
abbrev pub entry_for : Owner → Record → Listed
entry_for (owners.Space space) r = place_of r
entry_for (owners.Record parent) r = source_of r

-- a held record whose place or whose source the entry is
pub record IsOfHeld (S : State) (e : Listed) : Type 0 where
  pub r : Record
  pub held : Holds S r
  pub is : (e ≡ place_of r) ⊎ (e ≡ source_of r)

-- nothing is listed but held records
abbrev pub AreOfHeld : State → Places → Type 0
AreOfHeld S set = (e : Listed) → is_listed set e ≡ true → IsOfHeld S e
