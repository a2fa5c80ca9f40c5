use Rattle.std.proofs.Common.{◌≡◌, ◌<◌, arith, cond, length, refl, sym, ap, ◌∙◌}
use Rattle.std.specs.Prelude.{None, Some}
use Rattle.std.specs.Map.{lookup}
use Rattle.std.proofs.lemmas.Option.{slice_get_read}
use Rattle.mapdb_facts.specs.Names.{same_space}
use Rattle.mapdb_facts.specs.declared.names.Space.{Space}
use Rattle.mapdb_facts.proofs.Lists.SameNames.{same_space_itself}
use Rattle.mapdb_lists.proofs.PlaceLemmas.SpacePlaces.{no_space_found, place_below, placed_value, value_given}
use Rattle.mapdb_lists.proofs.PlaceLemmas.LessPlaces.{removed_none, removed_own}
use Rattle.mapdb_lists.proofs.owners_places.remove_for_space.Goals as goal

pub index_mut-requires : goal.index_mut-requires
index_mut-requires c = omega (arith, place_below c.spaces.inside.places c.spaces.inside.values.items c.spaces.invariant c.args.space c.in-Some.at (sym c.in-Some.ensures), c.spaces.inside.values.ok.0)

pub returns-in-Some : goal.returns-in-Some
returns-in-Some c =
    let within : c.in-Some.at < length c.spaces.inside.values.items = place_below c.spaces.inside.places c.spaces.inside.values.items c.spaces.invariant c.args.space c.in-Some.at (sym c.in-Some.ensures) in
    let found : Some c.index_mut.result.now ≡ lookup (same_space c.args.space) c.args.spaces.now.entries =
    sym (slice_get_read c.spaces.inside.values.items _ c.in-Some.at c.index_mut.result.now refl within c.index_mut.ensures.value)
    ∙ placed_value c.spaces.inside.places c.spaces.inside.values.items c.spaces.invariant c.args.space c.in-Some.at (sym c.in-Some.ensures)
    ∙ ap (λ table. lookup (same_space c.args.space) table.entries) c.spaces.view_is in
    removed_own Space same_space _ _ c.args.space c.args.place c.index_mut.result.now c.remove.new.self (same_space_itself c.args.space) found
    (λ q. value_given c.spaces.inside.places c.spaces.inside.values.items c.spaces.invariant c.args.space c.in-Some.at (sym c.in-Some.ensures) c.remove.new.self q
    ∙ ap (λ table. cond (same_space c.args.space q) (Some c.remove.new.self) (lookup (same_space q) table.entries)) c.spaces.view_is)
    c.remove.ensures

pub returns-in_default : goal.returns-in_default
returns-in_default c =
    let found : None ≡ lookup (same_space c.args.space) c.args.spaces.now.entries =
    no_space_found c.spaces.inside.places c.spaces.inside.values.items c.args.space (sym c.get.ensures ∙ c.in_default.is)
    ∙ ap (λ table. lookup (same_space c.args.space) table.entries) c.spaces.view_is in
    removed_none Space same_space c.args.spaces.now.entries c.args.space c.args.place found
