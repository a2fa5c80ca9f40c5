use Rattle.std.proofs.Common.{rules}
use Rattle.mapdb_rights.proofs.index.rights_index.RightsIndex.right_at.Goals as goal

pub returns-else-self-clause-rights : goal.returns-else-self-clause-rights
returns-else-self-clause-rights c = search rules
