use Rattle.std.proofs.Common.{rules}
use Rattle.mapdb_snapshot.proofs.scanning.number_before.Goals as goal

pub returns-clause-most : goal.returns-clause-most
returns-clause-most c = search rules
