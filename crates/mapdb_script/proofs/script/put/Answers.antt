use Rattle.std.proofs.Common.{rules}
use Rattle.mapdb_script.proofs.script.put.Goals as goal

pub returns-clause-write : goal.returns-clause-write
returns-clause-write g c = search rules
