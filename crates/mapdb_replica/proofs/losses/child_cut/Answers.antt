use Rattle.std.proofs.Common.{rules}
use Rattle.mapdb_replica.proofs.losses.child_cut.Goals as goal

pub returns : goal.returns
returns c = search rules
