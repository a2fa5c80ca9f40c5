use Rattle.std.proofs.Common.{arith, subst, sym}
use Rattle.std.proofs.lemmas.Grind.{common_steps}
use Rattle.mapdb_lists.specs.OwnPlaces.{IsAlignedPlace}
use Rattle.mapdb_lists.proofs.PlaceLemmas.LeastPlaces.{item_stands}
use Rattle.mapdb_lists.proofs.few_places.next_of_few.Goals as goal

pub meets-requires : goal.meets-requires
meets-requires c =
    subst IsAlignedPlace (sym c.index-places-at.is) (c.requires _ (item_stands c.args.places.now c.places.at c.index-places-at.result c.places-test.true))

pub returns-then-meets : goal.returns-then-meets
returns-then-meets c = grind (arith, common_steps)
