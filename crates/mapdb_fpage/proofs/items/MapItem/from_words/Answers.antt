use Rattle.std.proofs.Common.{rules}
use Rattle.mapdb_fpage.proofs.items.MapItem.from_words.Goals as goal

pub returns-then-is_grant : goal.returns-then-is_grant
returns-then-is_grant c = search rules

pub returns-then-not-is_map : goal.returns-then-not-is_map
returns-then-not-is_map c = search rules

pub returns-in_err-page : goal.returns-in_err-page
returns-in_err-page c = search rules

pub returns : goal.returns
returns c = search rules
