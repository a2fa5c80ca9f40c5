use Rattle.std.proofs.Common.{rules}
use Rattle.mapdb_lines.specs.Spellings.{send_at}
use Rattle.mapdb_lines.proofs.spellings.send.Goals as goal

pub returns-in_err-held : goal.returns-in_err-held
unfolding send_at
returns-in_err-held c = search rules
