use Rattle.std.proofs.Common.{rules}
use Rattle.mapdb_lines.specs.Grammar.{versioning_at}
use Rattle.mapdb_lines.proofs.forms.version_line.Goals as goal

pub returns-in_err-asked : goal.returns-in_err-asked
unfolding versioning_at
returns-in_err-asked c = search rules
