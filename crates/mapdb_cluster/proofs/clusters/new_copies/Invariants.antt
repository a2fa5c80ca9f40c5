use Rattle.std.proofs.Common.{◌≡◌, map}
use Rattle.std.specs.List.{range_with_len}
use Rattle.mapdb_replica.specs.Replica.{empty}
use Rattle.mapdb_cluster.proofs.clusters.new_copies.Given as goal

abbrev pub invariant-loop-processor : goal.invariant-loop-processor
invariant-loop-processor l = l.copies.items ≡ map empty (range_with_len 0 l.processor)
