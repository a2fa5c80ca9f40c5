use Rattle.std.proofs.Common.{rules}
use Rattle.mapdb_rights.proofs.index.rights_index.RightsIndex.unchanged_until.Goals as goal

pub returns-clause-same : goal.returns-clause-same
returns-clause-same c = search rules
