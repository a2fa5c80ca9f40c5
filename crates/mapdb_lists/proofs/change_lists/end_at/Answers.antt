use Rattle.std.proofs.lemmas.Grind.{common_steps}
use Rattle.std.proofs.Common.{arith}
use Rattle.mapdb_lists.proofs.change_lists.end_at.Goals as goal

pub returns-then-spot-list-clause-there : goal.returns-then-spot-list-clause-there
returns-then-spot-list-clause-there c = grind (arith, common_steps)
