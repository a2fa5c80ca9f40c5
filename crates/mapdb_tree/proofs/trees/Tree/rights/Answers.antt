use Rattle.std.proofs.Common.{rules}
use Rattle.mapdb_tree.proofs.trees.Tree.rights.Goals as goal

pub returns-then-self-clause-failed : goal.returns-then-self-clause-failed
returns-then-self-clause-failed c = search rules

pub returns-clause-known : goal.returns-clause-known
returns-clause-known c = search rules
