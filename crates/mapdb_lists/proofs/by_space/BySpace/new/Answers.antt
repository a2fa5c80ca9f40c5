use Rattle.mapdb_lists.proofs.PlaceLemmas.SpacePlaces.{no_spaces}
use Rattle.mapdb_lists.proofs.by_space.BySpace.new.Goals as goal

pub returns : goal.returns
returns g c = no_spaces c.new.result c.new-2.result.items c.new.ensures.none
