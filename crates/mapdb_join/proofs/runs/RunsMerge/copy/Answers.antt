use Rattle.std.proofs.Common.{rules}
use Rattle.mapdb_join.proofs.runs.RunsMerge.copy.Goals as goal

pub returns : goal.returns
returns c = search rules
