use Rattle.std.proofs.Common.{◌≡◌, ◌<◌, List, ap, sym, subst, ◌∙◌, arith}
use Rattle.std.specs.Prelude.{Option}
use Rattle.mapdb_fpage.specs.Bounds.{page_limit}
use Rattle.mapdb_facts.specs.Facts.{state_of_facts}
use Rattle.mapdb_facts.specs.declared.names.RecordId.{RecordId}
use Rattle.mapdb_lists.specs.OwnPlaces.{own_list}
use Rattle.mapdb_lists.specs.declared.places.Owner.TheVariants as owners
use Rattle.mapdb_lists.proofs.PlaceLemmas.OwnersPlaces.{own_aligned}
use Rattle.mapdb_rights.specs.PagePairs.{with_shown}
use Rattle.mapdb_rights.specs.PageRights.{pair_at}
use Rattle.mapdb_rights.proofs.Live.PagePairs.{Pair, PairsPassed, pairs_all, pairs_on}
use Rattle.mapdb_rights.proofs.Live.PassedPlaces.{none_passed}
use Rattle.mapdb_rights.proofs.index.page_pairs.pairs_among.Goals as goal

pub next_place-requires : goal.next_place-requires
next_place-requires c = own_aligned c.args.live.now (owners.Space c.args.space) (own_list c.args.own.now) c.requires.places c.requires.stands.live_there.listed.aligned

pub places-init : goal.places-init
places-init c = record {
  shown = c.in_ok-pairs.ensures.shown;
  top = c.in_ok-pairs.ensures.top;
  behind = none_passed (state_of_facts c.args.facts.now) c.args.space c.args.page _ c.args.own.now c.saturating_add-end.result c.start-sweep.result c.start-sweep.ensures;
}

pub places-preserved : goal.places-preserved
places-preserved c =
    let S = state_of_facts c.args.facts.now in
    let own = c.args.own.now in
    let end = c.saturating_add-end.result in
    let is : c.add_shown.new.pairs.items ≡ with_shown (pair_at S c.in-Some.next.place.id c.args.page) c.places.pairs.items =
    c.in_ok-add_shown.ensures ∙ ap (λ (o : Option Pair). with_shown o c.places.pairs.items) c.pair_of.ensures
    ∙ ap (λ (o : RecordId). with_shown (pair_at S o c.args.page) c.places.pairs.items) c.id.ensures in
    subst (λ (ps : List Pair). PairsPassed S c.args.space c.args.page own end c.in-Some.next.sweep ps) (sym is)
    (pairs_on S c.args.space c.args.page c.args.live.now c.requires.stands.live_there own end c.requires.places
    c.places.sweep c.in-Some.next c.places.pairs.items c.in-Some.ensures c.places.invariant)

pub returns : goal.returns
returns c =
    let end = c.saturating_add-end.result in
    let more = λ (inside : c.args.page < page_limit). let h : c.args.page < end = omega (arith, c.saturating_add-end.ensures) in h in
    pairs_all (state_of_facts c.args.facts.now) c.args.space c.args.page c.args.live.now c.requires.stands.live_there c.args.own.now end c.requires.places
    c.places.sweep c.places.pairs.items more c.in_default.ensures c.places.invariant
