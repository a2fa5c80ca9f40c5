use Rattle.std.proofs.Common.{◌≡◌, ◌≤◌, length, drop}
use Rattle.mapdb_exchange.specs.Reports.{takes_of}
use Rattle.mapdb_exchange.proofs.reports.has_taken.Given as goal

abbrev pub invariant-loop-entry : goal.invariant-loop-entry
invariant-loop-entry l = record {
  follows : takes_of l.seat (drop l.entry-index l.entries) ≡ drop l.next l.copy.own → takes_of l.seat l.entries ≡ l.copy.own;
  within : l.next ≤ length l.copy.own;
}
