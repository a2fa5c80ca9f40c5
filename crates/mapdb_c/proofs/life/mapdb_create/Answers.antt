use Rattle.std.proofs.Common.{rules}
use Rattle.mapdb_c.proofs.life.mapdb_create.Goals as goal

pub returns-in-Ok-clause-done : goal.returns-in-Ok-clause-done
returns-in-Ok-clause-done c = search rules
