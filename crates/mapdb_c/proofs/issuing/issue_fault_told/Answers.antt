use Rattle.std.proofs.Common.{rules}
use Rattle.mapdb_c.proofs.issuing.issue_fault_told.Goals as goal

pub returns-in-Memory : goal.returns-in-Memory
returns-in-Memory c = search rules
