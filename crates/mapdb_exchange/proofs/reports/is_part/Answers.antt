use Rattle.std.proofs.Common.{arith}
use Rattle.std.proofs.lemmas.Grind.{common_steps}
use Rattle.mapdb_exchange.proofs.reports.is_part.Goals as goal

pub returns-then-are_heard : goal.returns-then-are_heard
returns-then-are_heard c = grind (arith, common_steps)
