use Rattle.std.proofs.Common.{rules}
use Rattle.mapdb_join.proofs.least.least_above.Goals as goal

pub returns-in-Ok-clause-bound : goal.returns-in-Ok-clause-bound
returns-in-Ok-clause-bound g c = search rules

pub returns-in-Some-clause-err : goal.returns-in-Some-clause-err
returns-in-Some-clause-err g c = tt
