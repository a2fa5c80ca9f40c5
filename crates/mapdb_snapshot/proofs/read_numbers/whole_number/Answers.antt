use Rattle.std.proofs.Common.{rules}
use Rattle.mapdb_snapshot.proofs.read_numbers.whole_number.Goals as goal

pub returns-in-Some-clause-number : goal.returns-in-Some-clause-number
returns-in-Some-clause-number c = search rules
