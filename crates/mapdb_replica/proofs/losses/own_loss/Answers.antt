use Rattle.std.proofs.Common.{rules}
use Rattle.mapdb_replica.specs.Revoking.{own_loss}
use Rattle.mapdb_replica.proofs.losses.own_loss.Goals as goal

pub returns-then-flush : goal.returns-then-flush
unfolding own_loss
returns-then-flush c = search rules
