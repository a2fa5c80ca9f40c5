use Rattle.std.proofs.Common.{rules}
use Rattle.mapdb_lines.specs.Grammar.{map_at}
use Rattle.mapdb_lines.proofs.forms.map_line.Goals as goal

pub returns : goal.returns
unfolding map_at
returns c = search rules
