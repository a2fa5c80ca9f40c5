use Rattle.std.proofs.Common.{rules}
use Rattle.mapdb_join.proofs.grow.Grow.has.Goals as goal

pub returns : goal.returns
returns g c = search rules
