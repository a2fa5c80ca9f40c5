use Rattle.std.proofs.Common.{rules}
use Rattle.mapdb_join.proofs.map.JoinMapMerge.copy.Goals as goal

pub returns-clause-same : goal.returns-clause-same
returns-clause-same g c = search rules

pub returns-clause-keys : goal.returns-clause-keys
returns-clause-keys g c = search rules
