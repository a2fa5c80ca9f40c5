use Rattle.std.proofs.Common.{◌≡◌, ◌<◌, true, sym, subst, arith}
use Rattle.mapdb_fpage.specs.Bounds.{page_limit}
use Rattle.mapdb_facts.specs.Facts.{state_of_facts}
use Rattle.mapdb_facts.specs.declared.names.RecordId.{RecordId}
use Rattle.mapdb_lists.specs.Changes.{seen_in}
use Rattle.mapdb_lists.specs.OwnPlaces.{own_list}
use Rattle.mapdb_lists.specs.declared.places.Owner.TheVariants as owners
use Rattle.mapdb_lists.proofs.PlaceLemmas.OwnersPlaces.{own_aligned}
use Rattle.mapdb_rights.specs.Among.{is_shown}
use Rattle.mapdb_rights.specs.First.{first_where}
use Rattle.mapdb_rights.specs.PageRights.{is_record_into}
use Rattle.mapdb_rights.specs.declared.index.first_records.First.{First}
use Rattle.mapdb_rights.proofs.Live.FirstWalks.{FirstPassed, first_all, first_on}
use Rattle.mapdb_rights.proofs.Live.PassedPlaces.{none_passed, place_into}
use Rattle.mapdb_rights.proofs.index.first_records.first_among.Goals as goal

pub next_place-requires : goal.next_place-requires
next_place-requires c = own_aligned c.args.live.now (owners.Space c.args.space) (own_list c.args.own.now) c.requires.places c.requires.stands.live_there.listed.aligned

pub with_record-found-requires : goal.with_record-found-requires
with_record-found-requires c = record {
  stands = c.requires.stands;
  into = subst (λ (o : RecordId). is_record_into ((state_of_facts c.args.facts.now).record_at o) c.args.space ≡ true) (sym c.id.ensures)
      (place_into (state_of_facts c.args.facts.now) c.args.live.now c.requires.stands.live_there c.args.space (own_list c.args.own.now) c.requires.places c.in-Some.next.place c.in-Some.ensures.held);
}

pub places-init : goal.places-init
places-init c = record {
  found_there = c.root_first-found.ensures.found;
  top = c.root_first-found.ensures.there;
  behind = none_passed (state_of_facts c.args.facts.now) c.args.space c.args.page _ c.args.own.now c.saturating_add-end.result c.start-sweep.result c.start-sweep.ensures;
}

pub places-preserved : goal.places-preserved
places-preserved c =
    let S = state_of_facts c.args.facts.now in
    let changes = c.args.changes.now.own.entries in
    let own = c.args.own.now in
    let end = c.saturating_add-end.result in
    subst (λ (f : First). FirstPassed S changes c.args.space c.args.page own end c.in-Some.next.sweep f) (sym c.with_record-found.ensures)
    (subst (λ (o : RecordId). FirstPassed S changes c.args.space c.args.page own end c.in-Some.next.sweep
    (first_where (is_shown S c.args.space c.args.page o) o (seen_in changes o c.args.page) c.places.found)) (sym c.id.ensures)
    (first_on S changes c.args.space c.args.page c.args.live.now c.requires.stands.live_there own end c.places.sweep c.in-Some.next c.places.found c.in-Some.ensures c.places.invariant))

pub returns : goal.returns
returns c =
    let end = c.saturating_add-end.result in
    let more = λ (inside : c.args.page < page_limit). let h : c.args.page < end = omega (arith, c.saturating_add-end.ensures) in h in
    first_all (state_of_facts c.args.facts.now) c.args.changes.now.own.entries c.args.space c.args.page c.args.live.now c.requires.stands.live_there c.args.own.now end
    c.places.sweep c.places.found c.requires.places more c.in_default.ensures c.places.invariant
