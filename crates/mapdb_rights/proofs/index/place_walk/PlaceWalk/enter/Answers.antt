use Rattle.std.proofs.Common.{◌<◌, ◌++◌, ◌∷◌, ◌∙◌, [], ap, arith, refl, subst}
use Rattle.mapdb_lists.specs.declared.own_place.OwnPlace.{OwnPlace}
use Rattle.mapdb_rights.proofs.Places.PlaceWalks.{begin_behind, come_on}
use Rattle.mapdb_rights.proofs.index.place_walk.PlaceWalk.enter.Goals as goal

pub places-preserved : goal.places-preserved
places-preserved c =
    let place : OwnPlace = c.index-places-self-in-places.result in
    come_on c.args.places.now c.args.page c.places.self _ place c.places-test.true
    (c.in_ok-push.ensures.items ∙ ap (λ (p : OwnPlace). c.places.self.held.items ++ p ∷ []) c.index-places-self-in-places.is) refl c.places.invariant

pub returns-else-first-page-clause-behind : goal.returns-else-first-page-clause-behind
returns-else-first-page-clause-behind c =
    let place : OwnPlace = c.index-places-self.result in
    begin_behind c.args.places.now c.args.page c.requires.ordered c.places.self place (λ inside.
    subst (λ (p : OwnPlace). c.args.page < p.first) c.index-places-self.is (omega (arith, c.if-first-page.false, c.first.ensures.page)))
