use Rattle.std.proofs.Common.{◌<◌, arith, ap, length, refl, sym, ◌∙◌}
use Rattle.std.specs.Map.{lookup}
use Rattle.std.proofs.lemmas.Option.{slice_get_read}
use Rattle.mapdb_facts.specs.Names.{same_space}
use Rattle.mapdb_lists.proofs.PlaceLemmas.SpacePlaces.{no_space_found, place_below, placed_value}
use Rattle.mapdb_lists.proofs.by_space.BySpace.get.Goals as goal

pub index-requires : goal.index-requires
index-requires g c = omega (arith, place_below c.self.inside.places c.self.inside.values.items c.self.invariant c.args.space c.in-Some.at (sym c.in-Some.ensures), c.self.inside.values.ok.0)

pub returns-in-Some : goal.returns-in-Some
returns-in-Some g c =
    let within : c.in-Some.at < length c.self.inside.values.items = place_below c.self.inside.places c.self.inside.values.items c.self.invariant c.args.space c.in-Some.at (sym c.in-Some.ensures) in
    sym (slice_get_read c.self.inside.values.items _ c.in-Some.at c.index.result.now refl within c.index.ensures)
    ∙ placed_value c.self.inside.places c.self.inside.values.items c.self.invariant c.args.space c.in-Some.at (sym c.in-Some.ensures)
    ∙ ap (λ table. lookup (same_space c.args.space) table.entries) c.self.view_is

pub returns-in-None : goal.returns-in-None
returns-in-None g c =
    no_space_found c.self.inside.places c.self.inside.values.items c.args.space (sym c.in-None.ensures)
    ∙ ap (λ table. lookup (same_space c.args.space) table.entries) c.self.view_is
