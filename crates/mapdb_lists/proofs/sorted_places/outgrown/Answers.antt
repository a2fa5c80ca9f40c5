use Rattle.std.proofs.Common.{rules}
use Rattle.mapdb_lists.proofs.sorted_places.outgrown.Goals as goal

pub returns-in_ok-tree-in-Listed : goal.returns-in_ok-tree-in-Listed
returns-in_ok-tree-in-Listed c = search rules
