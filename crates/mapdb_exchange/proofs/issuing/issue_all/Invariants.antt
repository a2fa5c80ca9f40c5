use Rattle.std.proofs.Common.{◌≡◌, ◌++◌, map, take}
use Rattle.mapdb_exchange.specs.Calls.{commands_in, faults_in}
use Rattle.mapdb_exchange.specs.Finishing.{sent_on}
use Rattle.mapdb_exchange.proofs.issuing.issue_all.Given as goal

abbrev pub invariant-loop-command : goal.invariant-loop-command
invariant-loop-command g l = record {
  links : map sent_on l.links.items ≡ map sent_on l.fn.links.items;
  commands : commands_in l.seat.calls ≡ commands_in l.fn.seat.calls ++ take l.command-index l.script;
  none_told : faults_in l.seat.calls ≡ faults_in l.fn.seat.calls;
}
