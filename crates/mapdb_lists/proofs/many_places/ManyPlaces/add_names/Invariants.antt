use Rattle.std.proofs.Common.{◌≡◌, ◌≤◌, true}
use Rattle.std.specs.Prelude.{◌⊎◌, IfSome}
use Rattle.mapdb_fpage.specs.Bounds.{least_order}
use Rattle.mapdb_facts.specs.declared.names.RecordId.{RecordId}
use Rattle.mapdb_lists.specs.OwnPlaces.{IsNameMeeting, own_meets, stands}
use Rattle.mapdb_lists.specs.Standing.{is_named}
use Rattle.mapdb_lists.specs.declared.own_place.OwnPlace.{OwnPlace}
use Rattle.mapdb_lists.proofs.PlaceLemmas.PlaceNames.{IsAhead, orders_to_go}
use Rattle.mapdb_lists.proofs.many_places.ManyPlaces.add_names.Given as goal

-- each place that meets the pages is of an order that comes later, or its name is there
abbrev pub invariant-orders : goal.invariant-orders
invariant-orders l = record {
  kept : (id : RecordId) → is_named l.fn.names.items id ≡ true → is_named l.names.items id ≡ true;
  only : (id : RecordId) → is_named l.names.items id ≡ true → (is_named l.fn.names.items id ≡ true) ⊎ IsNameMeeting l.self.places l.first l.end id;
  least : IfSome l.reached (λ order. least_order ≤ order);
  named : (p : OwnPlace) → stands l.self.places p ≡ true → own_meets p l.first l.end ≡ true
      → IsAhead l.reached p.order ⊎ (is_named l.names.items p.id ≡ true);
}

abbrev pub decreases-orders : goal.decreases-orders
decreases-orders l = orders_to_go l.reached
