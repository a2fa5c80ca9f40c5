use Rattle.std.proofs.Common.{arith}
use Rattle.std.proofs.lemmas.Grind.{common_steps}
use Rattle.mapdb_exchange.proofs.faults.told_of.Goals as goal

pub returns-else-is_before : goal.returns-else-is_before
returns-else-is_before c = grind (arith, common_steps)
