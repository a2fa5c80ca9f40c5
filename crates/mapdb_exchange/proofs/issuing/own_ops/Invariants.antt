use Rattle.std.proofs.Common.{◌≡◌, length}
use Rattle.mapdb_exchange.specs.Calls.{commands_in, faults_in}
use Rattle.mapdb_exchange.proofs.issuing.own_ops.Given as goal

abbrev pub invariant-loop-step : goal.invariant-loop-step
invariant-loop-step g l = record {
  commands : commands_in l.seat.calls ≡ commands_in l.fn.seat.calls;
  none_told : faults_in l.seat.calls ≡ faults_in l.fn.seat.calls;
  count : length l.ops.items ≡ l.step;
}
