use Rattle.std.proofs.Common.{◌≡◌, false, sym, subst, ◌∙◌, arith}
use Rattle.std.specs.Prelude.{Option, option_map}
use Rattle.mapdb_lists.specs.declared.place_sets.Spot.{Spot}
use Rattle.mapdb_lists.specs.OwnPlaces.{HasReached, IsReachedAbove, own_meets, spot_place}
use Rattle.mapdb_lists.proofs.PlaceLemmas.Meetings.{none_met, reached_on}
use Rattle.mapdb_lists.proofs.many_places.ManyPlaces.next_meeting.Goals as goal

pub returns-then-first-min-clause-next : goal.returns-then-first-min-clause-next
returns-then-first-min-clause-next c k has above = none_met k c.args.first c.args.end (c.requires k has) (omega (arith, c.if-first-min.true, c.min.ensures))

pub orders-preserved : goal.orders-preserved
orders-preserved c =
    let keys = c.args.self.now.places in
    let here : IsReachedAbove keys c.args.first c.args.end c.args.after c.in-Some-reached.spot.place =
    subst (λ (r : Option Spot). HasReached keys c.args.first c.args.end c.args.after (option_map spot_place r)) c.in-Some-reached.is c.orders.invariant.reached in
    let apart : own_meets c.in-Some-reached.spot.place c.args.first c.args.end ≡ false = sym c.meets.ensures ∙ c.if-meets.false in
    record {
      reached = reached_on keys c.args.first c.args.end c.args.after c.in-Some-reached.spot.place (option_map spot_place c.pass-reached.result) here apart c.pass-reached.ensures.reached;
      behind = c.pass-reached.ensures.behind;
    }
