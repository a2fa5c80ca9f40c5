use Rattle.std.proofs.Common.{◌≡◌, ◌≤◌, length, drop, map}
use Rattle.mapdb_exchange.specs.Reports.{issues_of, at_seat}
use Rattle.mapdb_exchange.proofs.reports.has_script.Given as goal

abbrev pub invariant-loop-entry : goal.invariant-loop-entry
invariant-loop-entry l = record {
  follows : issues_of (drop l.entry-index l.entries) ≡ map (at_seat l.seat) (drop l.next l.script) → issues_of l.entries ≡ map (at_seat l.seat) l.script;
  within : l.next ≤ length l.script;
}
