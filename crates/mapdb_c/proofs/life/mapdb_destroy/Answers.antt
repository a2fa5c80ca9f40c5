use Rattle.std.proofs.Common.{rules}
use Rattle.mapdb_c.proofs.life.mapdb_destroy.Goals as goal

pub returns : goal.returns
returns c = search rules
