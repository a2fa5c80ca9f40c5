use Rattle.std.proofs.Common.{◌+◌, Bool, sym, subst, take}
use Rattle.std.specs.Prelude.{Option}
use Rattle.mapdb_lists.specs.declared.own_place.OwnPlace.{OwnPlace}
use Rattle.mapdb_lists.specs.OwnPlaces.{IsAlignedPlace, IsFirstPlaceWhere, is_next, lesser_where}
use Rattle.mapdb_lists.proofs.PlaceLemmas.LeastPlaces.{item_stands, least_step}
use Rattle.mapdb_lists.proofs.few_places.least_meeting.Goals as goal

pub lesser_meeting-found-requires : goal.lesser_meeting-found-requires
lesser_meeting-found-requires c =
    subst IsAlignedPlace (sym c.place-item.is) (c.requires _ (item_stands c.args.places.now c.loop-place.place-index c.place-item.result c.loop-place-test.true))

pub loop-place-preserved : goal.loop-place-preserved
loop-place-preserved c =
    let test : OwnPlace → Bool = is_next c.args.after c.args.first c.args.end in
    subst (λ (r : Option OwnPlace). IsFirstPlaceWhere (is_next c.args.after c.args.first c.args.end) (take (c.loop-place.place-index + 1) c.args.places.now) r)
    (sym c.lesser_meeting-found.ensures)
    (subst (λ (p : OwnPlace). IsFirstPlaceWhere test (take (c.loop-place.place-index + 1) c.args.places.now) (lesser_where test c.loop-place.found p)) (sym c.place-item.is)
    (least_step test c.args.places.now c.loop-place.place-index c.place-item.result c.loop-place.found c.loop-place-test.true c.loop-place.invariant))
