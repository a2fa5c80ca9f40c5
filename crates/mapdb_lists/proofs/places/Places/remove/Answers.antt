use Rattle.std.proofs.Common.{subst}
use Rattle.mapdb_lists.specs.declared.own_place.OwnPlace.{OwnPlace}
use Rattle.mapdb_lists.specs.declared.places.Owner.{Owner}
use Rattle.mapdb_lists.specs.Listing.{IsRemoved, same_owner}
use Rattle.mapdb_lists.proofs.PlaceLemmas.LessPlaces.{removed_among}
use Rattle.mapdb_lists.proofs.places.Places.remove.Goals as goal

pub returns : goal.returns
returns c =
    let own = c.args.self.now.own.entries in
    removed_among own c.remove.new.self.entries c.args.entry
    (subst (λ (p : OwnPlace). IsRemoved Owner same_owner own c.remove.new.self.entries c.args.entry.owner p) c.own_place.ensures c.remove.ensures)
