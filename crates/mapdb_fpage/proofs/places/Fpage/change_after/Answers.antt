use Rattle.std.proofs.Common.{rules}
use Rattle.mapdb_fpage.proofs.places.Fpage.change_after.Goals as goal

pub returns-then-page-first_page-clause-above : goal.returns-then-page-first_page-clause-above
returns-then-page-first_page-clause-above c = search rules

pub returns-then-page-first_page-clause-limit : goal.returns-then-page-first_page-clause-limit
returns-then-page-first_page-clause-limit c = search rules

pub returns-then-page-first_page-clause-same : goal.returns-then-page-first_page-clause-same
returns-then-page-first_page-clause-same c = search rules

pub returns-then-page-first_page-clause-other : goal.returns-then-page-first_page-clause-other
returns-then-page-first_page-clause-other c = search rules

pub returns-else-page-end-clause-above : goal.returns-else-page-end-clause-above
returns-else-page-end-clause-above c = search rules

pub returns-else-page-end-clause-limit : goal.returns-else-page-end-clause-limit
returns-else-page-end-clause-limit c = search rules

pub returns-else-page-end-clause-same : goal.returns-else-page-end-clause-same
returns-else-page-end-clause-same c = search rules

pub returns-else-page-end-clause-other : goal.returns-else-page-end-clause-other
returns-else-page-end-clause-other c = search rules
