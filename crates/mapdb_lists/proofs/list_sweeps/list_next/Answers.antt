use Rattle.std.proofs.Common.{◌≡◌, false, refl, sym, subst, length, ◌∙◌}
use Rattle.std.specs.Prelude.{slice_get}
use Rattle.std.proofs.lemmas.Option.{slice_get_past, slice_get_read}
use Rattle.mapdb_lists.specs.OwnPlaces.{HasReached, IsReachedAbove, own_meets}
use Rattle.mapdb_lists.proofs.PlaceLemmas.Meetings.{reached_on}
use Rattle.mapdb_lists.proofs.list_sweeps.list_next.Goals as goal

pub orders-preserved : goal.orders-preserved
orders-preserved c =
    let list = c.args.list.now in
    let found = c.in-Some.ensures.lookup.3 in
    let here : IsReachedAbove list c.args.first c.args.end c.args.after c.in-Some.reached.now =
    subst (HasReached list c.args.first c.args.end c.args.after)
    (slice_get_read list (length list) c.orders.index c.in-Some.reached.now refl found.0 (found.1 c.in-Some.reached.now)) c.orders.invariant in
    let apart : own_meets c.in-Some.reached.now c.args.first c.args.end ≡ false = sym c.meets.ensures ∙ c.if-meets.false in
    reached_on list c.args.first c.args.end c.args.after c.in-Some.reached.now (slice_get list c.list_pass-index.result) here apart c.list_pass-index.ensures.reached

pub returns-clause-next : goal.returns-clause-next
returns-clause-next c =
    subst (HasReached c.args.list.now c.args.first c.args.end c.args.after) (slice_get_past c.args.list.now c.orders.index c.in_default.ensures.lookup.3) c.orders.invariant
