use Rattle.std.proofs.Common.{rules}
use Rattle.mapdb_join.proofs.entries.Entries.insert_early.Goals as goal

pub returns-in-Err-clause-err : goal.returns-in-Err-clause-err
returns-in-Err-clause-err g c = search rules
