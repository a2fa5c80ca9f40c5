use Rattle.std.proofs.Common.{sym}
use Rattle.mapdb_lists.specs.OwnPlaces.{own_list}
use Rattle.mapdb_lists.specs.declared.places.Owner.TheVariants as owners
use Rattle.mapdb_lists.proofs.PlaceLemmas.OwnersPlaces.{own_aligned}
use Rattle.mapdb_rights.proofs.index.shown_spaces.space_places.Goals as goal

pub places_in_order-requires : goal.places_in_order-requires
places_in_order-requires c =
    own_aligned c.args.live.now (owners.Space c.args.space) (own_list c.in-Some.own.now) (sym c.in-Some.ensures) c.requires
