use Rattle.std.proofs.Common.{rules}
use Rattle.mapdb_c.proofs.comparing.mapdb_covers.Goals as goal

pub returns-clause-covers : goal.returns-clause-covers
returns-clause-covers c = search rules
