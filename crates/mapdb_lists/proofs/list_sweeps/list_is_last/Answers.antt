use Rattle.std.proofs.Common.{◌≡◌, ◌≤◌, ap, sym, ◌∙◌, arith}
use Rattle.std.specs.Prelude.{Some, not}
use Rattle.std.proofs.lemmas.Bool.{true≢false}
use Rattle.mapdb_lists.specs.OwnPlaces.{IsLeastPlace, is_beyond}
use Rattle.mapdb_lists.proofs.PlaceLemmas.Meetings.{last_of_order, no_order}
use Rattle.mapdb_lists.proofs.PlaceLemmas.PlaceLists.{got, next_is, none_next}
use Rattle.mapdb_lists.proofs.list_sweeps.list_is_last.Goals.{else-order-via-then-order+else-first-end, else-order-via-else-order}
use Rattle.mapdb_lists.proofs.list_sweeps.list_is_last.Goals as goal

pub returns : goal.returns
returns c first none =
    let found = c.in-Some.ensures.lookup.3 in
    let next : IsLeastPlace (is_beyond (Some c.args.place)) c.args.list.now c.in-Some.next.now =
    next_is c.args.list.now c.requires.ascend c.args.at c.args.place c.in-Some.next.now (got c.args.list.now c.args.at c.args.place c.requires.here) (found.0, λ d. sym (found.1 d)) in
    let begins : c.in-Some.next.now.order ≡ c.args.place.order → c.args.end ≤ c.in-Some.next.now.first =
    λ same. elim c.else-order.branch [
      | else-order-via-then-order+else-first-end w ↦ omega (arith, w.if-first-end.false, w.first.ensures.page)
      | else-order-via-else-order w ↦ absurd (w.if-order.false (c.order.ensures ∙ same ∙ sym c.order-2.ensures))
    ] in
    last_of_order c.args.list.now c.args.orders c.requires.aligned c.requires.ordered first c.args.end c.args.place
    c.in-Some.next.now c.saturating_add.result (omega (arith, c.saturating_add.ensures, c.order-3.ensures)) begins next.least next.passing
    (no_order c.args.orders c.saturating_add.result c.next_from.result c.next_from.ensures (c.is_none.ensures ∙ ap not none))

pub returns-in_default : goal.returns-in_default
returns-in_default c first said k has above =
    absurd (true≢false (sym above ∙ none_next c.args.list.now c.requires.ascend c.args.at c.args.place (got c.args.list.now c.args.at c.args.place c.requires.here) c.in_default.ensures.lookup.3 k has))
