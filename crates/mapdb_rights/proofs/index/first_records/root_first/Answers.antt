use Rattle.std.proofs.Common.{rules}
use Rattle.mapdb_rights.proofs.index.first_records.root_first.Goals as goal

pub returns-clause-found : goal.returns-clause-found
returns-clause-found c = search rules
