use Rattle.std.proofs.Common.{ap}
use Rattle.mapdb_lists.specs.Listing.{places_in}
use Rattle.mapdb_lists.proofs.places.Places.own.Goals as goal

pub returns : goal.returns
returns c = ap places_in c.get.ensures
