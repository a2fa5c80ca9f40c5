use Rattle.std.proofs.Common.{rules}
use Rattle.mapdb_join.proofs.grow.Grow.add.Goals as goal

pub returns-clause-ok : goal.returns-clause-ok
returns-clause-ok g c = search rules

pub returns-clause-atoms : goal.returns-clause-atoms
returns-clause-atoms g c = search rules
