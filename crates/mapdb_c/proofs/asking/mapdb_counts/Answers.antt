use Rattle.std.proofs.Common.{rules}
use Rattle.mapdb_c.proofs.asking.mapdb_counts.Goals as goal

pub returns-clause-counts : goal.returns-clause-counts
returns-clause-counts c = search rules
