use Rattle.std.proofs.Common.{sym, ◌∙◌}
use Rattle.std.specs.Map.{lookup}
use Rattle.mapdb_lists.specs.Owners.{same_owner}
use Rattle.mapdb_lists.proofs.PlaceLemmas.ByOwners.{record_found, space_found}
use Rattle.mapdb_lists.proofs.owners_places.OwnersPlaces.get.Goals as goal

pub returns-in-Record : goal.returns-in-Record
returns-in-Record c =
    c.get.ensures
    ∙ sym (record_found c.self.inside.records.entries c.self.inside.spaces.entries c.in-Record.id)
    ∙ (λ i. lookup (same_owner (sym c.in-Record.is i)) (c.self.view_is i).entries)

pub returns-in-Space : goal.returns-in-Space
returns-in-Space c =
    c.get-in-Space.ensures
    ∙ sym (space_found c.self.inside.records.entries c.self.inside.spaces.entries c.in-Space.space)
    ∙ (λ i. lookup (same_owner (sym c.in-Space.is i)) (c.self.view_is i).entries)
