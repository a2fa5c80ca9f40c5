use Rattle.std.proofs.Common.{arith}
use Rattle.mapdb_lines.proofs.NumberLemmas.{spelt}
use Rattle.mapdb_lines.proofs.numbers.number.Goals as goal

pub returns-then-is_empty-clause-value : goal.returns-then-is_empty-clause-value
returns-then-is_empty-clause-value c = grind (arith, spelt)
