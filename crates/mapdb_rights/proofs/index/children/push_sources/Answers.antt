use Rattle.std.proofs.Common.{sym, subst, List}
use Rattle.mapdb_lists.specs.declared.own_place.OwnPlace.{OwnPlace}
use Rattle.mapdb_lists.specs.OwnPlaces.{AreAligned, IsAlignedPlace}
use Rattle.mapdb_lists.proofs.PlaceLemmas.LeastPlaces.{item_stands}
use Rattle.mapdb_lists.proofs.PlaceLemmas.OwnSweeps.{few_are_all}
use Rattle.mapdb_rights.proofs.index.children.push_sources.Goals as goal

pub meets-requires : goal.meets-requires
meets-requires c =
    let places : List OwnPlace = c.in-Some.places.now in
    let aligned : AreAligned places = subst AreAligned (sym (few_are_all c.args.own.now places c.in-Some.ensures)) c.requires in
    subst IsAlignedPlace (sym c.place-item.is) (aligned _ (item_stands places c.loop-place.place-index c.place-item.result c.loop-place-test.true))
