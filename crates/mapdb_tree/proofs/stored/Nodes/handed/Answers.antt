use Rattle.std.proofs.Common.{rules}
use Rattle.mapdb_tree.proofs.stored.Nodes.handed.Goals as goal

pub returns-in_err-node : goal.returns-in_err-node
returns-in_err-node c = search rules

pub returns : goal.returns
returns c = search rules
