use Rattle.std.proofs.Common.{◌≡◌, [], take}
use Rattle.std.specs.Prelude.{IfNone, IfSome}
use Rattle.mapdb_exchange.specs.Faults.{IsFirstFault}
use Rattle.mapdb_exchange.proofs.faults.first_fault.Given as goal

abbrev pub invariant-loop-fault : goal.invariant-loop-fault
invariant-loop-fault l = record {
  first : IfSome l.first (IsFirstFault (take l.fault-index l.faults));
  none : IfNone l.first (take l.fault-index l.faults ≡ []);
}
