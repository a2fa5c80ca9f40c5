use Rattle.std.proofs.Common.{rules}
use Rattle.mapdb_c.proofs.asking.mapdb_free_version.Goals as goal

pub returns-clause-free : goal.returns-clause-free
returns-clause-free c = search rules
