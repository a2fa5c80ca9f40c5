use Rattle.std.proofs.Common.{rules}
use Rattle.mapdb_fpage.proofs.places.Fpage.holds.Goals as goal

pub returns-then-first_page-page : goal.returns-then-first_page-page
returns-then-first_page-page c = search rules

pub returns-else-first_page-page : goal.returns-else-first_page-page
returns-else-first_page-page c = search rules
