use Rattle.std.proofs.lemmas.Grind.{common_steps}
use Rattle.std.proofs.Common.{arith}
use Rattle.mapdb_facts.proofs.name_places.lengthen.Goals as goal

pub returns-clause-same : goal.returns-clause-same
returns-clause-same c = grind (arith, common_steps)
