use Rattle.std.proofs.Common.{rules}
use Rattle.mapdb_c.proofs.taking.mapdb_take.Goals as goal

pub returns-clause-stays : goal.returns-clause-stays
returns-clause-stays c = search rules
