use Rattle.std.proofs.Common.{rules}
use Rattle.mapdb_script.proofs.script.flush_before_read.Goals as goal

pub returns-then-has_line-clause-empty : goal.returns-then-has_line-clause-empty
returns-then-has_line-clause-empty c = search rules
