use Rattle.std.proofs.Common.{◌≤◌, ◌<◌, sym, subst, arith}
use Rattle.mapdb_fpage.specs.Bounds.{page_limit}
use Rattle.mapdb_facts.specs.Facts.{state_of_facts}
use Rattle.mapdb_lists.specs.Changes.{cached_in}
use Rattle.mapdb_lists.specs.OwnPlaces.{own_list}
use Rattle.mapdb_lists.specs.declared.places.Owner.TheVariants as owners
use Rattle.mapdb_lists.proofs.PlaceLemmas.OwnersPlaces.{own_aligned}
use Rattle.mapdb_rights.specs.declared.index.first_records.First.{First}
use Rattle.mapdb_rights.proofs.Live.FirstWalks.{FirstPassed, first_all, first_fewer, first_on}
use Rattle.mapdb_rights.proofs.Live.PassedPlaces.{none_passed}
use Rattle.mapdb_rights.proofs.Steady.ShownRuns.{passed_all, passed_next, passed_none}
use Rattle.mapdb_rights.proofs.index.first_until.first_until_among.Goals as goal

pub places-init : goal.places-init
places-init c = record {
  above = c.root_until-end.ensures.above;
  limit = c.root_until-end.ensures.limit;
  top = c.root_until-end.ensures.same;
  kept = passed_none c.args.live.now c.args.space (cached_in c.args.changes.now.own.entries) c.args.page c.args.own.now c.start-sweep.result c.root_until-end.result c.start-sweep.ensures;
  found = record {
    found_there = c.root_first-first.ensures.found;
    top = c.root_first-first.ensures.there;
    behind = none_passed (state_of_facts c.args.facts.now) c.args.space c.args.page _ c.args.own.now c.root_until-end.result c.start-sweep.result c.start-sweep.ensures;
  };
}

pub next_place-requires : goal.next_place-requires
next_place-requires c = own_aligned c.args.live.now (owners.Space c.args.space) (own_list c.args.own.now) c.requires.places c.requires.stands.live_there.listed.aligned

pub places-preserved : goal.places-preserved
places-preserved c =
    let S = state_of_facts c.args.facts.now in
    let changes = c.args.changes.now.own.entries in
    let own = c.args.own.now in
    let lives = c.requires.stands.live_there in
    let limit : c.places.end ≤ page_limit = c.places.invariant.limit in
    let above : c.args.page < c.places.end = c.places.invariant.above in
    let further : c.args.page < c.with_place-with.result.end = c.with_place-with.ensures.above in
    let fewer : c.min-end.result ≤ c.places.end = omega (arith, c.min-end.ensures) in
    let up_to : c.min-end.result ≤ c.with_place-with.result.end = omega (arith, c.min-end.ensures) in
    record {
      above = omega (arith, c.min-end.ensures, above, further);
      limit = omega arith;
      top = λ here q low less. c.places.invariant.top here q low (omega arith);
      kept = passed_next c.args.live.now c.args.space (cached_in changes) c.args.page own c.places.sweep c.in-Some.next
          c.places.end c.with_place-with.result.end c.min-end.result fewer up_to c.in-Some.ensures c.with_place-with.ensures.same c.places.invariant.kept;
      found = subst (λ (f : First). FirstPassed S changes c.args.space c.args.page own c.min-end.result c.in-Some.next.sweep f) (sym c.with_place-with.ensures.first)
          (first_fewer S changes c.args.space c.args.page c.args.live.now lives own c.places.end c.min-end.result fewer c.in-Some.next.sweep _
          (first_on S changes c.args.space c.args.page c.args.live.now lives own c.places.end c.places.sweep c.in-Some.next c.places.first c.in-Some.ensures c.places.invariant.found));
    }

pub returns-clause-first : goal.returns-clause-first
returns-clause-first c =
    first_all (state_of_facts c.args.facts.now) c.args.changes.now.own.entries c.args.space c.args.page c.args.live.now c.requires.stands.live_there c.args.own.now c.places.end
    c.places.sweep c.places.first c.requires.places (λ inside. c.places.invariant.above) c.in_default.ensures c.places.invariant.found

pub returns-clause-shown : goal.returns-clause-shown
returns-clause-shown c =
    passed_all c.args.live.now c.args.space (cached_in c.args.changes.now.own.entries) c.args.page (state_of_facts c.args.facts.now) c.requires.stands.live_there.named
    c.requires.stands.live_there c.requires.stands.rights c.places.end c.args.own.now c.requires.places c.places.sweep c.places.invariant.top c.in_default.ensures c.places.invariant.kept
