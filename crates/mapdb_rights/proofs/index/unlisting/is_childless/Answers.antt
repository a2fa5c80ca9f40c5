use Rattle.std.proofs.Common.{◌≡◌, false, ap, sym, ◌∙◌}
use Rattle.std.specs.Prelude.{None, Option, Some, is_some, not}
use Rattle.std.proofs.lemmas.Bool.{true≢false}
use Rattle.mapdb_fpage.specs.Bounds.{page_limit}
use Rattle.mapdb_lists.specs.Listing.{own_place}
use Rattle.mapdb_lists.specs.OwnPlaces.{IsSweptOn, ahead, own_list}
use Rattle.mapdb_lists.specs.declared.own_places.NextPlace.{NextPlace}
use Rattle.mapdb_lists.specs.declared.own_places.OwnPlaces.{OwnPlaces}
use Rattle.mapdb_lists.specs.declared.own_places.Sweep.{Sweep}
use Rattle.mapdb_lists.specs.declared.places.Owner.TheVariants as owners
use Rattle.mapdb_lists.proofs.PlaceLemmas.OwnersPlaces.{own_aligned, there}
use Rattle.mapdb_lists.proofs.PlaceLemmas.OwnSweeps.{start_ahead}
use Rattle.mapdb_rights.proofs.Places.Unlisted.{meets_all}
use Rattle.mapdb_rights.proofs.index.unlisting.is_childless.Goals as goal

none_next : (own : OwnPlaces) (sweep : Sweep) (found : Option NextPlace) → is_some found ≡ false → IsSweptOn (own_list own) (ahead own) 0 page_limit sweep found
    → IsSweptOn (own_list own) (ahead own) 0 page_limit sweep None
none_next own sweep None none swept = swept
none_next own sweep (Some next) none swept = absurd (true≢false none)

pub next_place-requires : goal.next_place-requires
next_place-requires c = own_aligned c.args.listed.now (owners.Record c.args.id) (own_list c.in-Some.own.now) (sym c.in-Some.ensures) c.requires

pub returns-in-Some : goal.returns-in-Some
returns-in-Some c none e owned has =
    let own = c.in-Some.own.now in
    let stands = there c.args.listed.now (owners.Record c.args.id) (own_list own) (sym c.in-Some.ensures) e owned has in
    true≢false (sym (meets_all e (c.requires e has))
    ∙ none_next own c.start.result c.next_place.result (c.is_none.ensures ∙ ap not none) c.next_place.ensures (own_place e) (start_ahead own c.start.result c.start.ensures (own_place e) stands))
