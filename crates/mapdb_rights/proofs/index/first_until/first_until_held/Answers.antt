use Rattle.std.proofs.Common.{◌+◌, ◌<◌, ◌≡◌, ◌∙◌, ◌≤◌, ◌++◌, [], ◌∷◌, List, ap, arith, refl, true, subst, sym, take}
use Rattle.std.proofs.lemmas.Bool.{false≢true}
use Rattle.std.proofs.lemmas.List.{take_all, take_more}
use Rattle.mapdb_facts.specs.Facts.{state_of_facts}
use Rattle.mapdb_lists.specs.Changes.{cached_in}
use Rattle.mapdb_lists.specs.Listing.{is_listed, listed_for, owner_places}
use Rattle.mapdb_lists.specs.OwnPlaces.{stands}
use Rattle.mapdb_lists.specs.declared.own_place.OwnPlace.{OwnPlace}
use Rattle.mapdb_lists.specs.declared.places.Owner.TheVariants as owners
use Rattle.mapdb_lists.proofs.PlaceLemmas.LeastPlaces.{item_stands}
use Rattle.mapdb_rights.specs.First.{IsBehindFirst}
use Rattle.mapdb_rights.specs.declared.index.first_records.First.{First}
use Rattle.mapdb_rights.proofs.Live.HeldWalks.{FirstHeld, first_held, held_on, stays_on}
use Rattle.mapdb_rights.proofs.Live.LiveOrders.{shown_live}
use Rattle.mapdb_rights.proofs.Live.PassedPlaces.{passed_all}
use Rattle.mapdb_rights.proofs.Steady.ShownRuns.{all_show, meets_more}
use Rattle.mapdb_rights.proofs.index.first_until.first_until_held.Goals as goal

pub loop-place-init : goal.loop-place-init
loop-place-init c =
    let above : c.args.page < c.root_until.result = c.root_until.ensures.above in
    let further : c.args.page < c.args.until = c.requires.above in
    let fewer : c.min-end.result ≤ c.root_until.result = omega (arith, c.min-end.ensures) in
    record {
      above = omega (arith, c.min-end.ensures, above, further);
      limit = omega (arith, c.min-end.ensures);
      top = λ here q low less. c.root_until.ensures.same here q low (omega arith);
      kept = λ p has. absurd (false≢true has);
      found = first_held (state_of_facts c.args.facts.now) c.args.changes.now.own.entries c.args.space c.args.page c.root_first-first.result
          c.root_first-first.ensures.found c.root_first-first.ensures.there;
    }

pub with_place-with-requires-clause-listed : goal.with_place-with-requires-clause-listed
with_place-with-requires-clause-listed c =
    subst (λ (p : OwnPlace). is_listed c.args.live.now (listed_for (owners.Space c.args.space) p) ≡ true) (sym c.place-item.is)
    (c.requires.listed _ (item_stands c.args.held.now c.loop-place.place-index c.place-item.result c.loop-place-test.true))

pub loop-place-preserved : goal.loop-place-preserved
loop-place-preserved c =
    let S = state_of_facts c.args.facts.now in
    let changes = c.args.changes.now.own.entries in
    let lives = c.requires.stands.live_there in
    let held = c.args.held.now in
    let i = c.loop-place.place-index in
    let next : OwnPlace = c.place-item.result in
    let more : take (i + 1) held ≡ take i held ++ next ∷ [] =
    take_more held i next c.loop-place-test.true ∙ ap (λ (p : OwnPlace). take i held ++ p ∷ []) (sym c.place-item.is) in
    let above : c.args.page < c.loop-place.end = c.loop-place.invariant.above in
    let limit : c.loop-place.end ≤ c.args.until = c.loop-place.invariant.limit in
    let further : c.args.page < c.with_place-with.result.end = c.with_place-with.ensures.above in
    let fewer : c.min-end-in-loop-place.result ≤ c.loop-place.end = omega (arith, c.min-end-in-loop-place.ensures) in
    let up_to : c.min-end-in-loop-place.result ≤ c.with_place-with.result.end = omega (arith, c.min-end-in-loop-place.ensures) in
    record {
      above = omega (arith, c.min-end-in-loop-place.ensures, above, further);
      limit = omega arith;
      top = λ here q low less. c.loop-place.invariant.top here q low (omega arith);
      kept = λ p has. stays_on c.args.live.now c.args.space (cached_in changes) c.args.page (take i held) next c.loop-place.end c.with_place-with.result.end
          c.min-end-in-loop-place.result fewer up_to c.with_place-with.ensures.same c.loop-place.invariant.kept p (ap (λ (l : List OwnPlace). stands l p) (sym more) ∙ has);
      found = subst (λ (l : List OwnPlace). FirstHeld S changes c.args.space c.args.page l c.with_place-with.result.first) (sym more)
          (subst (λ (f : First). FirstHeld S changes c.args.space c.args.page (take i held ++ next ∷ []) f) (sym c.with_place-with.ensures.first)
          (held_on S changes c.args.space c.args.page (take i held) next c.loop-place.first
          (shown_live S c.args.live.now c.args.space c.args.page lives.named lives.formed lives next.id) c.loop-place.invariant.found));
    }

pub returns-clause-first : goal.returns-clause-first
returns-clause-first c =
    let S = state_of_facts c.args.facts.now in
    let changes = c.args.changes.now.own.entries in
    let held = c.args.held.now in
    let all : take c.loop-place.place-index held ≡ held = take_all c.loop-place.place-index held (omega (arith, c.loop-place-test.false)) in
    let found = c.loop-place.invariant.found in
    record {
      found = found.found_there;
      all = passed_all S c.args.space c.args.page c.args.live.now c.requires.stands.live_there (owner_places c.args.live.now (owners.Space c.args.space)) refl
          (IsBehindFirst changes c.args.page c.loop-place.first) c.loop-place.end (λ inside. c.loop-place.invariant.above) found.top
          (λ p has meeting. found.behind p (ap (λ (l : List OwnPlace). stands l p) all
          ∙ c.requires.all p has (meets_more p c.args.page c.loop-place.end c.args.until c.loop-place.invariant.limit meeting)));
    }

pub returns-clause-shown : goal.returns-clause-shown
returns-clause-shown c =
    let lives = c.requires.stands.live_there in
    let held = c.args.held.now in
    let all : take c.loop-place.place-index held ≡ held = take_all c.loop-place.place-index held (omega (arith, c.loop-place-test.false)) in
    all_show c.args.live.now c.args.space (cached_in c.args.changes.now.own.entries) c.args.page (state_of_facts c.args.facts.now) lives.named lives c.requires.stands.rights
    c.loop-place.end (owner_places c.args.live.now (owners.Space c.args.space)) refl c.loop-place.invariant.top
    (λ p has meeting. c.loop-place.invariant.kept p (ap (λ (l : List OwnPlace). stands l p) all
    ∙ c.requires.all p has (meets_more p c.args.page c.loop-place.end c.args.until c.loop-place.invariant.limit meeting)) meeting)
