use Rattle.std.proofs.Common.{◌≡◌, ◌≤◌, ap, sym, subst, ◌∙◌, arith}
use Rattle.std.specs.Prelude.{Option, Some, not}
use Rattle.mapdb_lists.specs.declared.own_place.OwnPlace.{OwnPlace}
use Rattle.mapdb_lists.specs.OwnPlaces.{IsFirstPlaceWhere, IsLeastPlace, is_beyond}
use Rattle.mapdb_lists.proofs.PlaceLemmas.Meetings.{last_of_order, no_order}
use Rattle.mapdb_lists.proofs.many_places.ManyPlaces.is_last.Goals.{else-order-via-then-order+else-first-end, else-order-via-else-order}
use Rattle.mapdb_lists.proofs.many_places.ManyPlaces.is_last.Goals as goal

pub returns : goal.returns
returns c none =
    let next : IsLeastPlace (is_beyond (Some c.args.spot.place)) c.args.self.now.places c.in-Some.next =
    subst (λ (o : Option OwnPlace). IsFirstPlaceWhere (is_beyond (Some c.args.spot.place)) c.args.self.now.places o) c.in-Some.is c.requires.behind in
    let begins : c.in-Some.next.order ≡ c.args.spot.place.order → c.args.end ≤ c.in-Some.next.first =
    λ same. elim c.else-order.branch [
      | else-order-via-then-order+else-first-end w ↦ omega (arith, w.if-first-end.false, w.first.ensures.page)
      | else-order-via-else-order w ↦ absurd (w.if-order.false (c.order.ensures ∙ same ∙ sym c.order-order.ensures))
    ] in
    last_of_order c.args.self.now.places c.args.self.now.orders c.requires.aligned c.args.self.now.ordered c.args.first c.args.end c.args.spot.place
    c.in-Some.next c.saturating_add.result (omega (arith, c.saturating_add.ensures, c.order-order.ensures)) begins next.least next.passing
    (no_order c.args.self.now.orders c.saturating_add.result c.next_from.result c.next_from.ensures (c.is_none.ensures ∙ ap not none))
