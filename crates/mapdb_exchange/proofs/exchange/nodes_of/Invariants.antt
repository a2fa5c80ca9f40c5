use Rattle.std.proofs.Common.{◌≡◌, length}
use Rattle.mapdb_exchange.proofs.exchange.nodes_of.Given as goal

abbrev pub invariant-loop-processor : goal.invariant-loop-processor
invariant-loop-processor l = length l.nodes.items ≡ l.processor
