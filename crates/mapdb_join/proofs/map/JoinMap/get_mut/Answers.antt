use Rattle.std.proofs.Common.{rules}
use Rattle.mapdb_join.proofs.map.JoinMap.get_mut.Goals as goal

pub returns : goal.returns
returns g c = search rules
