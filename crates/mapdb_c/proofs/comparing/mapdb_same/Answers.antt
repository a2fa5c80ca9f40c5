use Rattle.std.proofs.Common.{rules}
use Rattle.mapdb_c.proofs.comparing.mapdb_same.Goals as goal

pub returns-clause-same : goal.returns-clause-same
returns-clause-same c = search rules
