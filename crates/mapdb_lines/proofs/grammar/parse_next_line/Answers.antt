use Rattle.std.proofs.Common.{rules}
use Rattle.mapdb_lines.specs.Grammar.{next_said}
use Rattle.mapdb_lines.proofs.grammar.parse_next_line.Goals as goal

pub returns-then-lines-ge-MOST_LINES-clause-said : goal.returns-then-lines-ge-MOST_LINES-clause-said
unfolding next_said
returns-then-lines-ge-MOST_LINES-clause-said c = search rules

pub returns-then-bytes-gt-MOST_LINE_BYTES-clause-said : goal.returns-then-bytes-gt-MOST_LINE_BYTES-clause-said
unfolding next_said
returns-then-bytes-gt-MOST_LINE_BYTES-clause-said c = search rules
