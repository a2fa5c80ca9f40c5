use Rattle.std.specs.Prelude.{IfSome, option_map}
use Rattle.mapdb_lists.specs.OwnPlaces.{HasReached, IsBehind, orders_ahead, spot_place}
use Rattle.mapdb_lists.proofs.many_places.ManyPlaces.next_meeting.Given as goal

abbrev pub invariant-orders : goal.invariant-orders
invariant-orders l = record {
  reached : HasReached l.self.places l.first l.end l.fn.after (option_map spot_place l.reached);
  behind : IfSome l.reached (IsBehind l.self.places);
}

abbrev pub decreases-orders : goal.decreases-orders
decreases-orders l = orders_ahead l.first (option_map spot_place l.reached)
