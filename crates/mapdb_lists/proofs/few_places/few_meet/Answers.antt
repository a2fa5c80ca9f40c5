use Rattle.std.proofs.Common.{subst, sym}
use Rattle.mapdb_lists.specs.OwnPlaces.{IsAlignedPlace}
use Rattle.mapdb_lists.proofs.PlaceLemmas.LeastPlaces.{item_stands}
use Rattle.mapdb_lists.proofs.few_places.few_meet.Goals as goal

pub meets-requires : goal.meets-requires
meets-requires c =
    subst IsAlignedPlace (sym c.place-item.is) (c.requires _ (item_stands c.args.places.now c.loop-place.place-index c.place-item.result c.loop-place-test.true))
