use Rattle.std.proofs.Common.{rules}
use Rattle.mapdb_replica.proofs.pieces.add_piece.Goals as goal

pub returns-in_ok-push : goal.returns-in_ok-push
returns-in_ok-push c = search rules
