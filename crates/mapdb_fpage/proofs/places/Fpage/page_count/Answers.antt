use Rattle.std.proofs.Common.{rules}
use Rattle.mapdb_fpage.proofs.places.Fpage.page_count.Goals as goal

pub returns-clause-count : goal.returns-clause-count
returns-clause-count c = search rules

pub returns-clause-limit : goal.returns-clause-limit
returns-clause-limit c = search rules

pub returns-clause-place : goal.returns-clause-place
returns-clause-place c = search rules
