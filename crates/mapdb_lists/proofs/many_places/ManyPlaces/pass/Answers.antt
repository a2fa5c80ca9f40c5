use Rattle.std.proofs.Common.{ℕ, ◌≤◌, ◌+◌, ◌%◌, ◌^◌, ◌∙◌, ap, subst, arith}
use Rattle.std.specs.Prelude.{◌-◌, option_map}
use Rattle.std.specs.BTreeMap.Range.{is_from_start}
use Rattle.std.specs.declared.ops.Bound.TheVariants.{Included}
use Rattle.mapdb_fpage.specs.Bounds.{least_order}
use Rattle.mapdb_lists.specs.declared.own_place.OwnPlace.{OwnPlace}
use Rattle.mapdb_lists.specs.OwnPlaces.{HasReachedFrom, IsFirstPlaceWhere, own_pages, place_cmp, spot_place, start}
use Rattle.mapdb_lists.proofs.PlaceLemmas.Meetings.{ends_before, fewer_end, fewer_low, pass_end, pass_low}
use Rattle.mapdb_lists.proofs.many_places.ManyPlaces.pass.Goals as goal

pub returns-then-first-end-clause-reached : goal.returns-then-first-end-clause-reached
returns-then-first-end-clause-reached c =
    pass_end c.args.self.now.places c.args.first c.args.end c.args.place (option_map spot_place c.reach.result) (c.args.place.order + 1)
    (omega (arith, c.if-first-end.true, c.first.ensures.page)) (omega arith) (λ k has up. omega arith)
    (subst (λ (o : ℕ). HasReachedFrom c.args.self.now.places (o + 1) c.args.first c.args.end (option_map spot_place c.reach.result)) c.order.ensures (c.reach.ensures.reached c.args.end))

pub returns-then-first-end-clause-fewer : goal.returns-then-first-end-clause-fewer
returns-then-first-end-clause-fewer c =
    fewer_end c.args.self.now.places c.args.first c.args.end c.args.place (option_map spot_place c.reach.result) c.requires.aligned
    (subst (λ (o : ℕ). HasReachedFrom c.args.self.now.places (o + 1) c.args.first c.args.end (option_map spot_place c.reach.result)) c.order.ensures (c.reach.ensures.reached c.args.end))

pub returns-clause-reached : goal.returns-clause-reached
returns-clause-reached c =
    let before : c.args.place.first + own_pages c.args.place ≤ c.args.first = ends_before c.args.place c.args.first c.args.end c.requires.pages (omega (arith, c.if-first-end.false, c.first.ensures.page)) c.requires.apart in
    pass_low c.args.self.now.places c.args.first c.args.end c.args.place (option_map spot_place c.first_from.result) c.requires.aligned before
    (subst (λ (p : OwnPlace). IsFirstPlaceWhere (is_from_start place_cmp (Included p)) c.args.self.now.places (option_map spot_place c.first_from.result)) (c.start_of.ensures ∙ ap (λ (o : ℕ). start o (c.args.first - c.args.first % 2 ^ (o - least_order))) c.order-2.ensures) c.first_from.ensures.least)

pub returns-clause-fewer : goal.returns-clause-fewer
returns-clause-fewer c =
    let before : c.args.place.first + own_pages c.args.place ≤ c.args.first = ends_before c.args.place c.args.first c.args.end c.requires.pages (omega (arith, c.if-first-end.false, c.first.ensures.page)) c.requires.apart in
    fewer_low c.args.self.now.places c.args.first c.args.end c.args.place (option_map spot_place c.first_from.result) c.requires.aligned before
    (subst (λ (p : OwnPlace). IsFirstPlaceWhere (is_from_start place_cmp (Included p)) c.args.self.now.places (option_map spot_place c.first_from.result)) (c.start_of.ensures ∙ ap (λ (o : ℕ). start o (c.args.first - c.args.first % 2 ^ (o - least_order))) c.order-2.ensures) c.first_from.ensures.least)
