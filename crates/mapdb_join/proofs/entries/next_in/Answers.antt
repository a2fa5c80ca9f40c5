use Rattle.std.proofs.Common.{rules}
use Rattle.mapdb_join.proofs.entries.next_in.Goals as goal

pub returns-in-Some-next-clause-found : goal.returns-in-Some-next-clause-found
returns-in-Some-next-clause-found g c = search rules
