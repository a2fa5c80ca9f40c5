use Rattle.std.proofs.Common.{rules}
use Rattle.mapdb_picture.proofs.explanations.block_of.Goals as goal

pub returns-then-holds : goal.returns-then-holds
returns-then-holds c = search rules
