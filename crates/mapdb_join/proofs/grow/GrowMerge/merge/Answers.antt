use Rattle.std.proofs.Common.{rules}
use Rattle.mapdb_join.proofs.grow.GrowMerge.merge.Goals as goal

pub returns-clause-ok : goal.returns-clause-ok
returns-clause-ok g c = search rules
