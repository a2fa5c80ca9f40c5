use Rattle.mapdb_snapshot.proofs.Places.LargestOfAll.{places_are_largest}
use Rattle.mapdb_snapshot.proofs.laws.places_are_largest.Goals as goal

pub returns : goal.returns
returns c = places_are_largest
