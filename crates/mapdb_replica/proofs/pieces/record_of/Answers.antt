use Rattle.std.proofs.Common.{rules}
use Rattle.mapdb_replica.proofs.pieces.record_of.Goals as goal

pub returns : goal.returns
returns c = search rules
