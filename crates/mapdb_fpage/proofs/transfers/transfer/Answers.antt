use Rattle.std.proofs.Common.{rules}
use Rattle.mapdb_fpage.proofs.transfers.transfer.Goals as goal

pub returns-in_err-page : goal.returns-in_err-page
returns-in_err-page c = search rules

pub returns-in_err-window : goal.returns-in_err-window
returns-in_err-window c = search rules

pub returns : goal.returns
returns c = search rules
