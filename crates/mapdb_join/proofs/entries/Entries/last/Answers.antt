use Rattle.std.proofs.Common.{rules}
use Rattle.mapdb_join.proofs.entries.Entries.last.Goals as goal

pub returns-in-Some-clause-greatest : goal.returns-in-Some-clause-greatest
returns-in-Some-clause-greatest g c = search rules
