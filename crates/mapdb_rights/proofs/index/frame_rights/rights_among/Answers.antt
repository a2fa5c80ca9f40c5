use Rattle.std.proofs.Common.{◌<◌, sym, subst, arith}
use Rattle.mapdb_fpage.specs.Bounds.{page_limit}
use Rattle.mapdb_fpage.specs.declared.right_sets.Rights.{Rights}
use Rattle.mapdb_facts.specs.Facts.{state_of_facts}
use Rattle.mapdb_facts.specs.declared.names.RecordId.{RecordId}
use Rattle.mapdb_lists.specs.Changes.{seen_in}
use Rattle.mapdb_lists.specs.OwnPlaces.{own_list}
use Rattle.mapdb_lists.specs.declared.places.Owner.TheVariants as owners
use Rattle.mapdb_lists.proofs.PlaceLemmas.OwnersPlaces.{own_aligned}
use Rattle.mapdb_rights.specs.First.{joined_as_far}
use Rattle.mapdb_rights.proofs.Live.FrameRights.{RightsPassed, rights_all, rights_on}
use Rattle.mapdb_rights.proofs.Live.PassedPlaces.{none_passed}
use Rattle.mapdb_rights.proofs.index.frame_rights.rights_among.Goals as goal

pub next_place-requires : goal.next_place-requires
next_place-requires c = own_aligned c.args.live.now (owners.Space c.args.space) (own_list c.args.own.now) c.requires.places c.requires.stands.live_there.listed.aligned

pub places-init : goal.places-init
places-init c = record {
  found_there = c.root_rights-known.ensures.found;
  top = c.root_rights-known.ensures.there;
  behind = none_passed (state_of_facts c.args.facts.now) c.args.space c.args.page _ c.args.own.now c.saturating_add-end.result c.start-sweep.result c.start-sweep.ensures;
}

pub places-preserved : goal.places-preserved
places-preserved c =
    let S = state_of_facts c.args.facts.now in
    let changes = c.args.changes.now.own.entries in
    let own = c.args.own.now in
    let end = c.saturating_add-end.result in
    subst (λ (r : Rights). RightsPassed S changes c.args.space c.args.page c.args.shift own end c.in-Some.next.sweep r) (sym c.with_record-known.ensures)
    (subst (λ (o : RecordId). RightsPassed S changes c.args.space c.args.page c.args.shift own end c.in-Some.next.sweep
    (joined_as_far c.args.shift (seen_in changes o c.args.page) c.places.known)) (sym c.id.ensures)
    (rights_on S changes c.args.space c.args.page c.args.shift c.requires.stands.rights c.args.live.now c.requires.stands.live_there own end c.requires.places
    c.places.sweep c.in-Some.next c.places.known c.in-Some.ensures c.places.invariant))

pub returns : goal.returns
returns c =
    let end = c.saturating_add-end.result in
    let more = λ (inside : c.args.page < page_limit). let h : c.args.page < end = omega (arith, c.saturating_add-end.ensures) in h in
    rights_all (state_of_facts c.args.facts.now) c.args.changes.now.own.entries c.args.space c.args.page c.args.shift c.requires.stands.rights c.args.live.now c.requires.stands.live_there
    c.args.own.now end c.requires.places c.places.sweep c.places.known more c.in_default.ensures c.places.invariant
