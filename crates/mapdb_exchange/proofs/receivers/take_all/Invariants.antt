use Rattle.std.proofs.Common.{◌≡◌, ◌++◌, take}
use Rattle.mapdb_exchange.specs.Calls.{faults_in, held_in}
use Rattle.mapdb_exchange.proofs.receivers.take_all.Given as goal

abbrev pub invariant-loop-op : goal.invariant-loop-op
invariant-loop-op g l = record {
  held : held_in l.seat.calls ≡ held_in l.fn.seat.calls ++ take l.op-index l.ops;
  none_told : faults_in l.seat.calls ≡ faults_in l.fn.seat.calls;
}
