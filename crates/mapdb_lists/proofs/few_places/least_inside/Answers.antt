use Rattle.std.proofs.Common.{◌+◌, Bool, sym, subst, take}
use Rattle.std.specs.Prelude.{Option}
use Rattle.std.specs.BTreeMap.Range.{is_from_start}
use Rattle.mapdb_lists.specs.declared.own_place.OwnPlace.{OwnPlace}
use Rattle.mapdb_lists.specs.OwnPlaces.{IsFirstPlaceWhere, lesser_where, place_cmp}
use Rattle.mapdb_lists.proofs.PlaceLemmas.LeastPlaces.{least_step}
use Rattle.mapdb_lists.proofs.few_places.least_inside.Goals as goal

pub loop-place-preserved : goal.loop-place-preserved
loop-place-preserved c =
    let test : OwnPlace → Bool = is_from_start place_cmp c.args.start.now in
    subst (λ (r : Option OwnPlace). IsFirstPlaceWhere (is_from_start place_cmp c.args.start.now) (take (c.loop-place.place-index + 1) c.args.places.now) r)
    (sym c.lesser_inside-found.ensures)
    (subst (λ (p : OwnPlace). IsFirstPlaceWhere test (take (c.loop-place.place-index + 1) c.args.places.now) (lesser_where test c.loop-place.found p)) (sym c.place-item.is)
    (least_step test c.args.places.now c.loop-place.place-index c.place-item.result c.loop-place.found c.loop-place-test.true c.loop-place.invariant))
