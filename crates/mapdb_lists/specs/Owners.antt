-- Which owners of places are one, and the places of all of them.
use Rattle.std.specs.Prelude.{Bool, false, List, ◌++◌, map}
use Rattle.mapdb_facts.specs.Names.{same_id, same_space}
use Rattle.mapdb_facts.specs.declared.names.RecordId.{RecordId}
use Rattle.mapdb_facts.specs.declared.names.Space as names
use Rattle.mapdb_lists.specs.declared.own_places.OwnPlaces.{OwnPlaces}
use Rattle.mapdb_lists.specs.declared.places.Owner.{Owner}
use Rattle.mapdb_lists.specs.declared.places.Owner.TheVariants.{Record, Space}

abbrev pub same_owner : Owner → Owner → Bool
same_owner (Record a) (Record b) = same_id a b
same_owner (Record a) (Space b) = false
same_owner (Space a) (Record b) = false
same_owner (Space a) (Space b) = same_space a b

-- the owners with their places
pub record PlacesByOwner : Type 0 where
  pub entries : List (Owner × OwnPlaces)

-- records with their places, and then spaces with theirs
abbrev pub by_owner : List (RecordId × OwnPlaces) → List (names.Space × OwnPlaces) → PlacesByOwner
by_owner records spaces = record {
  entries = map (λ e. (Record e.0, e.1)) records ++ map (λ e. (Space e.0, e.1)) spaces;
}
