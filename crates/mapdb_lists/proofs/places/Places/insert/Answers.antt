use Rattle.std.proofs.Common.{ap, ◌∙◌}
use Rattle.std.specs.Prelude.{◌||◌}
use Rattle.std.specs.BTreeMap.{is_at}
use Rattle.mapdb_lists.specs.declared.own_place.OwnPlace.{OwnPlace}
use Rattle.mapdb_lists.specs.Listing.{places_among}
use Rattle.mapdb_lists.specs.OwnPlaces.{place_cmp, stands}
use Rattle.mapdb_lists.proofs.PlaceLemmas.OwnersPlaces.{put_among}
use Rattle.std.proofs.lemmas.Result.{on_ok_weaker}
use Rattle.mapdb_lists.proofs.places.Places.insert.Goals as goal

pub returns : goal.returns
returns c =
    let own = c.args.self.now.own.entries in
    on_ok_weaker c.put.result
    (λ h. put_among own c.put.new.self.entries c.args.entry h.own h.given
    (λ k. h.put k ∙ ap (λ (p : OwnPlace). is_at (place_cmp p) k || stands (places_among own c.args.entry.owner) k) c.own_place.ensures))
    c.put.ensures
