use Rattle.std.proofs.Common.{rules}
use Rattle.mapdb_join.proofs.flat.FlatMerge.clash.Goals as goal

pub returns-then-eq-clause-none : goal.returns-then-eq-clause-none
returns-then-eq-clause-none g c = search rules
