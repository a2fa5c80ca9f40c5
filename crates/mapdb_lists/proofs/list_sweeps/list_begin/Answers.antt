use Rattle.std.proofs.Common.{◌<◌, sym, subst, arith}
use Rattle.std.specs.Prelude.{Option, slice_get}
use Rattle.mapdb_lists.specs.declared.own_place.OwnPlace.{OwnPlace}
use Rattle.mapdb_lists.specs.OwnPlaces.{HasReached}
use Rattle.mapdb_lists.proofs.PlaceLemmas.Meetings.{begin_least, pass_end}
use Rattle.mapdb_lists.proofs.list_sweeps.list_begin.Goals as goal

pub returns-in_default : goal.returns-in_default
returns-in_default c =
    subst (λ (a : Option OwnPlace). HasReached c.args.list.now c.args.first c.args.end a (slice_get c.args.list.now c.list_reach.result)) (sym c.in_default.is)
    (begin_least c.args.list.now c.args.first c.args.end (slice_get c.args.list.now c.list_reach.result) (c.list_reach.ensures c.args.end))

pub returns-then-first-end : goal.returns-then-first-end
returns-then-first-end c =
    subst (λ (a : Option OwnPlace). HasReached c.args.list.now c.args.first c.args.end a (slice_get c.args.list.now c.list_reach-then-first-end.result)) (sym c.in-Some.is)
    (pass_end c.args.list.now c.args.first c.args.end c.in-Some.place (slice_get c.args.list.now c.list_reach-then-first-end.result) c.saturating_add.result
    (omega (arith, c.if-first-end.true, c.first.ensures.page)) (omega (arith, c.saturating_add.ensures, c.order.ensures))
    (λ k has up. let most = (c.requires.aligned k has).at_most_all in let above : c.in-Some.place.order < k.order = omega (arith, c.saturating_add.ensures, c.order.ensures) in above)
    (c.list_reach-then-first-end.ensures c.args.end))
