use Rattle.std.proofs.Common.{rules}
use Rattle.mapdb_rights.proofs.index.stepping.taken_at.Goals as goal

pub returns-then-page-run-clause-same : goal.returns-then-page-run-clause-same
returns-then-page-run-clause-same c = search rules
