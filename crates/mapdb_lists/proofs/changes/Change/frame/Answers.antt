use Rattle.std.proofs.Common.{rules}
use Rattle.mapdb_lists.proofs.changes.Change.frame.Goals as goal

pub returns : goal.returns
returns c = search rules
