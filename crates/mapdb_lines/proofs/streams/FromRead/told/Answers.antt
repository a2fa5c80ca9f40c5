use Rattle.std.proofs.Common.{rules}
use Rattle.mapdb_lines.proofs.streams.FromRead.told.Goals as goal

pub returns-then-not-is_empty-clause-ended : goal.returns-then-not-is_empty-clause-ended
returns-then-not-is_empty-clause-ended g c = search rules

pub returns-then-not-is_empty-clause-error : goal.returns-then-not-is_empty-clause-error
returns-then-not-is_empty-clause-error g c = search rules

pub returns-then-not-is_empty-clause-failed : goal.returns-then-not-is_empty-clause-failed
returns-then-not-is_empty-clause-failed g c = search rules
