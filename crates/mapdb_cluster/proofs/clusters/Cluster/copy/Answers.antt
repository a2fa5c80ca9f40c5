use Rattle.std.proofs.Common.{arith}
use Rattle.std.proofs.lemmas.Grind.{elements}
use Rattle.mapdb_cluster.proofs.clusters.Cluster.copy.Goals as goal

pub returns-clause-found : goal.returns-clause-found
returns-clause-found c = grind (arith, elements)
