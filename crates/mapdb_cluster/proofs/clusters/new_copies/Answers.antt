use Rattle.std.proofs.Common.{arith}
use Rattle.mapdb_cluster.proofs.Steps.NewCopies.{one_copy_more}
use Rattle.mapdb_cluster.proofs.clusters.new_copies.Goals as goal

pub loop-processor-preserved : goal.loop-processor-preserved
loop-processor-preserved c = grind (arith, one_copy_more)
