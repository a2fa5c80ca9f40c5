use Rattle.std.proofs.Common.{rules}
use Rattle.mapdb_rights.proofs.index.rights_index.RightsIndex.shown_at.Goals as goal

pub returns-clause-page : goal.returns-clause-page
returns-clause-page c = search rules
