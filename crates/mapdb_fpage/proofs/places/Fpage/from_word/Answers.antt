use Rattle.std.proofs.Common.{rules}
use Rattle.mapdb_fpage.proofs.places.Fpage.from_word.Goals as goal

pub returns-then-is_set : goal.returns-then-is_set
returns-then-is_set c = search rules

pub returns-in_err-page : goal.returns-in_err-page
returns-in_err-page c = search rules

pub returns : goal.returns
returns c = search rules
