use Rattle.std.proofs.Common.{◌≡◌, length, map}
use Rattle.mapdb_exchange.specs.Finishing.{sent_on}
use Rattle.mapdb_exchange.proofs.issuing.send_all.Given as goal

abbrev pub invariant-loop-at : goal.invariant-loop-at
invariant-loop-at g l = record {
  same : map sent_on l.links ≡ map sent_on l.fn.links;
  count : length l.links ≡ length l.fn.links;
}
