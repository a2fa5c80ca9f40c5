use Rattle.std.proofs.Common.{◌≡◌, subst}
use Rattle.std.specs.Prelude.{◌||◌}
use Rattle.std.specs.BTreeMap.{is_at}
use Rattle.mapdb_lists.specs.declared.own_place.OwnPlace.{OwnPlace}
use Rattle.mapdb_lists.specs.OwnPlaces.{place_cmp, stands}
use Rattle.mapdb_lists.proofs.PlaceLemmas.LeastPlaces.{many_step}
use Rattle.mapdb_lists.proofs.own_places.many_of.Goals as goal

pub loop-place-preserved : goal.loop-place-preserved
loop-place-preserved c =
    many_step c.args.places.now c.loop-place.place-index c.place-item.result c.loop-place.many.places c.insert.new.self.places c.loop-place-test.true
    (subst (λ (p : OwnPlace). (k : OwnPlace) → stands c.insert.new.self.places k ≡ (is_at (place_cmp p) k || stands c.loop-place.many.places k)) c.place-item.is c.in_ok-insert.ensures)
    c.loop-place.invariant
