use Rattle.std.proofs.Common.{[], ◌+◌, ◌++◌, ◌∙◌, ◌∷◌, ◌≡◌, List, ap, arith, refl, true, subst, sym, take}
use Rattle.std.proofs.lemmas.Bool.{false≢true}
use Rattle.std.proofs.lemmas.List.{take_all, take_more}
use Rattle.mapdb_facts.specs.Facts.{state_of_facts}
use Rattle.mapdb_facts.specs.declared.names.RecordId.{RecordId}
use Rattle.mapdb_fpage.specs.declared.right_sets.Rights.{Rights}
use Rattle.mapdb_lists.specs.Changes.{seen_in}
use Rattle.mapdb_lists.specs.Listing.{owner_places}
use Rattle.mapdb_lists.specs.OwnPlaces.{stands}
use Rattle.mapdb_lists.specs.declared.own_place.OwnPlace.{OwnPlace}
use Rattle.mapdb_lists.specs.declared.places.Owner.TheVariants as owners
use Rattle.mapdb_lists.proofs.PlaceLemmas.LeastPlaces.{item_stands}
use Rattle.mapdb_rights.specs.First.{IsJoined, joined_as_far}
use Rattle.mapdb_rights.proofs.Live.HeldRights.{RightsHeld, rights_held_on}
use Rattle.mapdb_rights.proofs.Live.PassedPlaces.{passed_all}
use Rattle.mapdb_rights.proofs.index.frame_rights.held_frame_rights.Goals as goal

pub loop-place-init : goal.loop-place-init
loop-place-init c = record {
  found_there = c.root_rights-known.ensures.found;
  top = c.root_rights-known.ensures.there;
  behind = λ p has. absurd (false≢true has);
}

pub loop-place-preserved : goal.loop-place-preserved
loop-place-preserved c =
    let S = state_of_facts c.args.facts.now in
    let changes = c.args.changes.now.own.entries in
    let held = c.args.held.now in
    let i = c.loop-place.place-index in
    let next : OwnPlace = c.place-item.result in
    let more : take (i + 1) held ≡ take i held ++ next ∷ [] =
    take_more held i next c.loop-place-test.true ∙ ap (λ (p : OwnPlace). take i held ++ p ∷ []) (sym c.place-item.is) in
    subst (λ (l : List OwnPlace). RightsHeld S changes c.args.space c.args.page c.args.shift l c.with_record-known.result) (sym more)
    (subst (λ (r : Rights). RightsHeld S changes c.args.space c.args.page c.args.shift (take i held ++ next ∷ []) r) (sym c.with_record-known.ensures)
    (subst (λ (o : RecordId). RightsHeld S changes c.args.space c.args.page c.args.shift (take i held ++ next ∷ [])
    (joined_as_far c.args.shift (seen_in changes o c.args.page) c.loop-place.known)) (sym c.id.ensures)
    (rights_held_on S changes c.args.space c.args.page c.args.shift c.requires.stands.rights c.args.live.now c.requires.stands.live_there (take i held) next c.loop-place.known
    (c.requires.listed next (subst (λ (p : OwnPlace). stands held p ≡ true) (sym c.place-item.is) (item_stands held i next c.loop-place-test.true))) c.loop-place.invariant)))

pub returns : goal.returns
returns c =
    let S = state_of_facts c.args.facts.now in
    let changes = c.args.changes.now.own.entries in
    let held = c.args.held.now in
    let all : take c.loop-place.place-index held ≡ held = take_all c.loop-place.place-index held (omega (arith, c.loop-place-test.false)) in
    let found = c.loop-place.invariant in
    record {
      found = found.found_there;
      all = passed_all S c.args.space c.args.page c.args.live.now c.requires.stands.live_there (owner_places c.args.live.now (owners.Space c.args.space)) refl
          (IsJoined changes c.args.page c.args.shift c.loop-place.known) (c.args.page + 1) (λ inside. omega arith) found.top
          (λ p has meeting. found.behind p (ap (λ (l : List OwnPlace). stands l p) all ∙ c.requires.all p has meeting));
    }
