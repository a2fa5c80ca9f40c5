use Rattle.std.proofs.Common.{rules}
use Rattle.mapdb_fpage.proofs.places.Fpage.window_from_word.Goals as goal

pub returns-in_err-place-in_default : goal.returns-in_err-place-in_default
returns-in_err-place-in_default c = search rules

pub returns-in-0-eq0 : goal.returns-in-0-eq0
returns-in-0-eq0 c = search rules

pub returns-in-0-eq1 : goal.returns-in-0-eq1
returns-in-0-eq1 c = search rules

pub returns-in_ok-place-in_default : goal.returns-in_ok-place-in_default
returns-in_ok-place-in_default c = search rules
