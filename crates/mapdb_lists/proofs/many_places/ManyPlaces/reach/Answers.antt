use Rattle.std.proofs.Common.{subst, arith}
use Rattle.std.specs.Prelude.{option_map}
use Rattle.std.specs.BTreeMap.Range.{is_from_start}
use Rattle.std.specs.declared.ops.Bound.TheVariants.{Included}
use Rattle.mapdb_lists.specs.declared.own_place.OwnPlace.{OwnPlace}
use Rattle.mapdb_lists.specs.OwnPlaces.{IsFirstPlaceWhere, place_cmp, spot_place}
use Rattle.mapdb_lists.proofs.PlaceLemmas.Meetings.{first_reached}
use Rattle.mapdb_lists.proofs.many_places.ManyPlaces.reach.Goals as goal

pub returns-in-Some-clause-reached : goal.returns-in-Some-clause-reached
returns-in-Some-clause-reached c end =
    first_reached c.args.self.now.places c.args.self.now.orders c.requires.aligned c.args.self.now.ordered c.args.order c.max.result c.args.page end
    (omega (arith, c.max.ensures)) (λ m up least. omega (arith, c.max.ensures)) c.in-Some.next c.in-Some.ensures (option_map spot_place c.first_from.result)
    (subst (λ (p : OwnPlace). IsFirstPlaceWhere (is_from_start place_cmp (Included p)) c.args.self.now.places (option_map spot_place c.first_from.result)) c.start_of.ensures c.first_from.ensures.least)
