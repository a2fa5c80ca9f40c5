use Rattle.mapdb_facts.proofs.NameLemmas.ByPlaces.{nothing_placed}
use Rattle.mapdb_facts.proofs.by_name.ByName.new.Goals as goal

pub returns : goal.returns
returns g c = nothing_placed c.new.result c.new-2.result.items c.new.ensures.none
