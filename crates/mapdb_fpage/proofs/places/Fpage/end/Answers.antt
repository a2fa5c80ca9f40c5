use Rattle.std.proofs.Common.{rules}
use Rattle.mapdb_fpage.proofs.places.Fpage.end.Goals as goal

pub returns-clause-end : goal.returns-clause-end
returns-clause-end c = search rules

pub returns-clause-limit : goal.returns-clause-limit
returns-clause-limit c = search rules
