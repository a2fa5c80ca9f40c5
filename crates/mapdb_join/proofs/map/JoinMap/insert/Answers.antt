use Rattle.std.proofs.Common.{rules}
use Rattle.mapdb_join.proofs.map.JoinMap.insert.Goals as goal

pub returns-clause-ok : goal.returns-clause-ok
returns-clause-ok g c = search rules

pub returns-clause-alone : goal.returns-clause-alone
returns-clause-alone g c = search rules

pub returns-clause-atoms : goal.returns-clause-atoms
returns-clause-atoms g c = search rules
