use Rattle.std.proofs.Common.{rules}
use Rattle.mapdb_join.proofs.entries.Entries.with.Goals as goal

pub returns-clause-first : goal.returns-clause-first
returns-clause-first g c = search rules
