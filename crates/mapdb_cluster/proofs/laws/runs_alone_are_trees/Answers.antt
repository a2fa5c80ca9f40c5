use Rattle.mapdb_cluster.proofs.Moves.Alone.{runs_alone_are_trees}
use Rattle.mapdb_cluster.proofs.laws.runs_alone_are_trees.Goals as goal

pub returns : goal.returns
returns c = runs_alone_are_trees
