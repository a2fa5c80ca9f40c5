use Rattle.std.proofs.Common.{◌≡◌, ◌<◌, ◌≤◌, ◌∙◌, ℕ, ap, drop, subst, sym, true}
use Rattle.mapdb_fpage.specs.Bounds.{page_limit}
use Rattle.mapdb_lists.specs.OwnPlaces.{stands}
use Rattle.mapdb_lists.specs.declared.own_place.OwnPlace.{OwnPlace}
use Rattle.mapdb_rights.proofs.Places.PlaceWalks.{first_least, first_stands, first_within}
use Rattle.mapdb_rights.proofs.index.place_walk.PlaceWalk.next_first.Goals as goal

pub returns-then-self-places-clause-above : goal.returns-then-self-places-clause-above
returns-then-self-places-clause-above c =
    let place : OwnPlace = c.index-places-self.result in
    subst (λ (n : ℕ). c.args.page < n) (ap (λ (p : OwnPlace). p.first) (sym c.index-places-self.is) ∙ sym c.first.ensures.page)
    (c.requires.behind _ (first_stands c.args.places.now c.args.self.now.begun place c.if-self-places.true))

pub returns-then-self-places-clause-limit : goal.returns-then-self-places-clause-limit
returns-then-self-places-clause-limit c =
    let place : OwnPlace = c.index-places-self.result in
    subst (λ (n : ℕ). n ≤ page_limit) (ap (λ (p : OwnPlace). p.first) (sym c.index-places-self.is) ∙ sym c.first.ensures.page)
    (first_within c.args.places.now c.requires.aligned c.args.self.now.begun place c.if-self-places.true)

pub returns-then-self-places-clause-least : goal.returns-then-self-places-clause-least
returns-then-self-places-clause-least c p has =
    let place : OwnPlace = c.index-places-self.result in
    subst (λ (n : ℕ). n ≤ p.first) (ap (λ (q : OwnPlace). q.first) (sym c.index-places-self.is) ∙ sym c.first.ensures.page)
    (first_least c.args.places.now c.requires.ordered c.args.self.now.begun place p has).1

pub returns-then-self-places-clause-begins : goal.returns-then-self-places-clause-begins
returns-then-self-places-clause-begins c inside =
    let place : OwnPlace = c.index-places-self.result in (
      place,
      subst (λ (p : OwnPlace). stands (drop c.args.self.now.begun c.args.places.now) p ≡ true) (sym c.index-places-self.is)
          (first_stands c.args.places.now c.args.self.now.begun place c.if-self-places.true),
      sym c.first.ensures.page,
    )
