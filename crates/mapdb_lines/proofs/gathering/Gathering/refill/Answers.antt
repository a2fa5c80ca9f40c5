use Rattle.std.proofs.Common.{rules}
use Rattle.mapdb_lines.proofs.gathering.Gathering.refill.Goals as goal

pub returns-clause-some : goal.returns-clause-some
returns-clause-some g c = search rules
