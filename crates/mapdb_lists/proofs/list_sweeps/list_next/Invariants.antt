use Rattle.std.specs.Prelude.{slice_get}
use Rattle.mapdb_lists.specs.OwnPlaces.{HasReached, orders_ahead}
use Rattle.mapdb_lists.proofs.list_sweeps.list_next.Given as goal

abbrev pub invariant-orders : goal.invariant-orders
invariant-orders l = HasReached l.list l.first l.end l.fn.after (slice_get l.list l.index)

abbrev pub decreases-orders : goal.decreases-orders
decreases-orders l = orders_ahead l.first (slice_get l.list l.index)
