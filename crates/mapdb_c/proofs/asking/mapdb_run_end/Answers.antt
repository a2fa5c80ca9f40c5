use Rattle.std.proofs.Common.{rules}
use Rattle.mapdb_c.proofs.asking.mapdb_run_end.Goals as goal

pub returns-clause-ends : goal.returns-clause-ends
returns-clause-ends c = search rules
