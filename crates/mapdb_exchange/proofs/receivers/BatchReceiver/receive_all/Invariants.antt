use Rattle.std.proofs.Common.{◌≡◌, ◌++◌}
use Rattle.mapdb_exchange.specs.Calls.{faults_in, held_in, ops_in}
use Rattle.mapdb_exchange.specs.Links.{AreBatches}
use Rattle.mapdb_exchange.proofs.receivers.BatchReceiver.receive_all.Given as goal

abbrev pub invariant-loop : goal.invariant-loop
invariant-loop g l = record {
  can : (goal.iterator-loop g).can_next l.iterator';
  finite : (goal.iterator-loop g).is_finite l.iterator';
  batches : AreBatches l.from l.to 0 l.next l.end.received;
  taken : held_in l.seat.calls ≡ held_in l.fn.seat.calls ++ ops_in l.end.received;
  none_told : faults_in l.seat.calls ≡ faults_in l.fn.seat.calls;
}
