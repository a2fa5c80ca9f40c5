use Rattle.std.proofs.Common.{arith}
use Rattle.std.proofs.lemmas.Grind.{elements}
use Rattle.mapdb_script.proofs.answering.ScriptCluster.served.Goals as goal

pub returns : goal.returns
returns c = grind (arith, elements)
