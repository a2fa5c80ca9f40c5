use Rattle.std.proofs.Common.{rules}
use Rattle.mapdb_facts.proofs.holding.Facts.clash_with.Goals as goal

pub returns-then-eq : goal.returns-then-eq
returns-then-eq c = search rules
