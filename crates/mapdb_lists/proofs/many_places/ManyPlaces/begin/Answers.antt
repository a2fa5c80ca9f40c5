use Rattle.std.proofs.Common.{◌<◌, sym, subst, arith}
use Rattle.std.specs.Prelude.{Option, option_map}
use Rattle.mapdb_lists.specs.declared.own_place.OwnPlace.{OwnPlace}
use Rattle.mapdb_lists.specs.OwnPlaces.{HasReached, spot_place}
use Rattle.mapdb_lists.proofs.PlaceLemmas.Meetings.{begin_least, pass_end}
use Rattle.mapdb_lists.proofs.many_places.ManyPlaces.begin.Goals as goal

pub returns-in_default-clause-reached : goal.returns-in_default-clause-reached
returns-in_default-clause-reached c =
    subst (λ (a : Option OwnPlace). HasReached c.args.self.now.places c.args.first c.args.end a (option_map spot_place c.reach.result)) (sym c.in_default.is)
    (begin_least c.args.self.now.places c.args.first c.args.end (option_map spot_place c.reach.result) (c.reach.ensures.reached c.args.end))

pub returns-then-first-end-clause-reached : goal.returns-then-first-end-clause-reached
returns-then-first-end-clause-reached c =
    subst (λ (a : Option OwnPlace). HasReached c.args.self.now.places c.args.first c.args.end a (option_map spot_place c.reach-then-first-end.result)) (sym c.in-Some.is)
    (pass_end c.args.self.now.places c.args.first c.args.end c.in-Some.place (option_map spot_place c.reach-then-first-end.result) c.saturating_add.result
    (omega (arith, c.if-first-end.true, c.first.ensures.page)) (omega (arith, c.saturating_add.ensures, c.order.ensures))
    (λ k has up. let most = (c.requires.aligned k has).at_most_all in let above : c.in-Some.place.order < k.order = omega (arith, c.saturating_add.ensures, c.order.ensures) in above)
    (c.reach-then-first-end.ensures.reached c.args.end))
