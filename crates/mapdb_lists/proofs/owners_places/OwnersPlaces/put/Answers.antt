use Rattle.std.proofs.Common.{sym, subst}
use Rattle.mapdb_lists.specs.declared.places.Owner.{Owner}
use Rattle.mapdb_lists.specs.declared.places.Owner.TheVariants.{Record, Space}
use Rattle.mapdb_lists.specs.Listing.{IsPut}
use Rattle.mapdb_lists.specs.Owners.{PlacesByOwner, by_owner, same_owner}
use Rattle.std.proofs.lemmas.Result.{on_ok_weaker}
use Rattle.mapdb_lists.proofs.PlaceLemmas.ByOwners.{record_put, space_put}
use Rattle.mapdb_lists.proofs.owners_places.OwnersPlaces.put.Goals as goal

pub returns-in-Record : goal.returns-in-Record
returns-in-Record c =
    let spaces = c.self.inside.spaces.entries in
    let new = (by_owner c.put_for_record.new.records.entries c.self.inside.spaces.entries).entries in
    on_ok_weaker c.put_for_record.result
    (λ h. subst (λ (o : Owner). IsPut Owner same_owner c.args.self.now.entries new o c.args.place) (sym c.in-Record.is)
    (subst (λ (table : PlacesByOwner). IsPut Owner same_owner table.entries new (Record c.in-Record.id) c.args.place) c.self.view_is
    (record_put c.self.inside.records.entries c.put_for_record.new.records.entries spaces c.in-Record.id c.args.place h)))
    c.put_for_record.ensures

pub returns-in-Space : goal.returns-in-Space
returns-in-Space c =
    let records = c.self.inside.records.entries in
    let new = (by_owner c.self.inside.records.entries c.put_for_space.new.spaces.entries).entries in
    on_ok_weaker c.put_for_space.result
    (λ h. subst (λ (o : Owner). IsPut Owner same_owner c.args.self.now.entries new o c.args.place) (sym c.in-Space.is)
    (subst (λ (table : PlacesByOwner). IsPut Owner same_owner table.entries new (Space c.in-Space.space) c.args.place) c.self.view_is
    (space_put records c.self.inside.spaces.entries c.put_for_space.new.spaces.entries c.in-Space.space c.args.place h)))
    c.put_for_space.ensures
