use Rattle.std.proofs.Common.{◌≡◌, ◌<◌, arith, cond, length, refl, sym, ap, ◌∙◌}
use Rattle.std.specs.Prelude.{◌||◌, List, Option, None, Some}
use Rattle.std.specs.BTreeMap.{is_at}
use Rattle.std.specs.Map.{lookup}
use Rattle.std.proofs.lemmas.Option.{slice_get_read}
use Rattle.mapdb_facts.specs.Names.{same_id}
use Rattle.mapdb_lists.specs.declared.own_place.OwnPlace.{OwnPlace}
use Rattle.mapdb_lists.specs.declared.own_places.OwnPlaces.{OwnPlaces}
use Rattle.mapdb_lists.specs.Listing.{places_in}
use Rattle.mapdb_lists.specs.OwnPlaces.{place_cmp, stands}
use Rattle.std.proofs.lemmas.Result.{on_ok_weaker}
use Rattle.mapdb_facts.proofs.NameLemmas.ByPlaces.{no_place_found, place_below, placed_value, value_given}
use Rattle.mapdb_lists.proofs.owners_places.put_for_record.Goals as goal

pub index_mut-requires : goal.index_mut-requires
index_mut-requires c = omega (arith, place_below c.records.inside.places c.records.inside.values.items c.records.invariant c.args.id c.in-Some.at (sym c.in-Some.ensures), c.records.inside.values.ok.0)

pub returns-in-Some : goal.returns-in-Some
returns-in-Some c =
    let within : c.in-Some.at < length c.records.inside.values.items = place_below c.records.inside.places c.records.inside.values.items c.records.invariant c.args.id c.in-Some.at (sym c.in-Some.ensures) in
    let found : Some c.index_mut.result.now ≡ lookup (same_id c.args.id) c.args.records.now.entries =
    sym (slice_get_read c.records.inside.values.items _ c.in-Some.at c.index_mut.result.now refl within c.index_mut.ensures.value)
    ∙ placed_value c.records.inside.places c.records.inside.values.items c.records.invariant c.args.id c.in-Some.at (sym c.in-Some.ensures)
    ∙ ap (λ table. lookup (same_id c.args.id) table.entries) c.records.view_is in
    on_ok_weaker c.insert.result
    (λ put. record {
      own = c.insert.new.self;
      given = λ q. value_given c.records.inside.places c.records.inside.values.items c.records.invariant c.args.id c.in-Some.at (sym c.in-Some.ensures) c.insert.new.self q
          ∙ ap (λ table. cond (same_id c.args.id q) (Some c.insert.new.self) (lookup (same_id q) table.entries)) c.records.view_is;
      put = λ k. put k ∙ ap (λ (o : Option OwnPlaces). is_at (place_cmp c.args.place) k || stands (places_in o) k) found;
    })
    c.insert.ensures

pub returns : goal.returns
returns c =
    let found : None ≡ lookup (same_id c.args.id) c.args.records.now.entries =
    no_place_found c.records.inside.places c.records.inside.values.items c.args.id (sym c.get.ensures ∙ c.in_default.is)
    ∙ ap (λ table. lookup (same_id c.args.id) table.entries) c.records.view_is in
    on_ok_weaker c.insert-3.result
    (λ given. record {
      own = c.insert-2.new.self;
      given = given;
      put = λ k. c.in_ok-insert.ensures k
          ∙ ap (λ (l : List OwnPlace). is_at (place_cmp c.args.place) k || stands l k) c.new-own.ensures
          ∙ ap (λ (o : Option OwnPlaces). is_at (place_cmp c.args.place) k || stands (places_in o) k) found;
    })
    c.insert-3.ensures.ok

pub insert-requires-3 : goal.insert-requires-3
insert-requires-3 c =
    sym (no_place_found c.records.inside.places c.records.inside.values.items c.args.id (sym c.get.ensures ∙ c.in_default.is)
    ∙ ap (λ table. lookup (same_id c.args.id) table.entries) c.records.view_is)
