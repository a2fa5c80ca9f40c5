use Rattle.std.proofs.Common.{rules}
use Rattle.mapdb_facts.proofs.name_places.NamePlaces.get.Goals as goal

pub returns : goal.returns
returns c = search rules
