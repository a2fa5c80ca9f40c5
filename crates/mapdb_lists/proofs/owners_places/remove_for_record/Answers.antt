use Rattle.std.proofs.Common.{◌≡◌, ◌<◌, arith, cond, length, refl, sym, ap, ◌∙◌}
use Rattle.std.specs.Prelude.{None, Some}
use Rattle.std.specs.Map.{lookup}
use Rattle.std.proofs.lemmas.Option.{slice_get_read}
use Rattle.mapdb_facts.specs.Names.{same_id}
use Rattle.mapdb_facts.specs.declared.names.RecordId.{RecordId}
use Rattle.mapdb_facts.proofs.Lists.SameNames.{same_id_itself}
use Rattle.mapdb_facts.proofs.NameLemmas.ByPlaces.{no_place_found, place_below, placed_value, value_given}
use Rattle.mapdb_lists.proofs.PlaceLemmas.LessPlaces.{removed_none, removed_own}
use Rattle.mapdb_lists.proofs.owners_places.remove_for_record.Goals as goal

pub index_mut-requires : goal.index_mut-requires
index_mut-requires c = omega (arith, place_below c.records.inside.places c.records.inside.values.items c.records.invariant c.args.id c.in-Some.at (sym c.in-Some.ensures), c.records.inside.values.ok.0)

pub returns-in-Some : goal.returns-in-Some
returns-in-Some c =
    let within : c.in-Some.at < length c.records.inside.values.items = place_below c.records.inside.places c.records.inside.values.items c.records.invariant c.args.id c.in-Some.at (sym c.in-Some.ensures) in
    let found : Some c.index_mut.result.now ≡ lookup (same_id c.args.id) c.args.records.now.entries =
    sym (slice_get_read c.records.inside.values.items _ c.in-Some.at c.index_mut.result.now refl within c.index_mut.ensures.value)
    ∙ placed_value c.records.inside.places c.records.inside.values.items c.records.invariant c.args.id c.in-Some.at (sym c.in-Some.ensures)
    ∙ ap (λ table. lookup (same_id c.args.id) table.entries) c.records.view_is in
    removed_own RecordId same_id _ _ c.args.id c.args.place c.index_mut.result.now c.remove.new.self (same_id_itself c.args.id) found
    (λ q. value_given c.records.inside.places c.records.inside.values.items c.records.invariant c.args.id c.in-Some.at (sym c.in-Some.ensures) c.remove.new.self q
    ∙ ap (λ table. cond (same_id c.args.id q) (Some c.remove.new.self) (lookup (same_id q) table.entries)) c.records.view_is)
    c.remove.ensures

pub returns-in_default : goal.returns-in_default
returns-in_default c =
    let found : None ≡ lookup (same_id c.args.id) c.args.records.now.entries =
    no_place_found c.records.inside.places c.records.inside.values.items c.args.id (sym c.get.ensures ∙ c.in_default.is)
    ∙ ap (λ table. lookup (same_id c.args.id) table.entries) c.records.view_is in
    removed_none RecordId same_id c.args.records.now.entries c.args.id c.args.place found
