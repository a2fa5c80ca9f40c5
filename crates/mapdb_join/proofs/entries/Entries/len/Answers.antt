use Rattle.std.proofs.Common.{rules}
use Rattle.mapdb_join.proofs.entries.Entries.len.Goals as goal

pub returns-in-One : goal.returns-in-One
returns-in-One g c = search rules
