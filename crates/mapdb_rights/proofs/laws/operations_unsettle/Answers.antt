use Rattle.mapdb_rights.proofs.Settling.Unsettling.{operations_unsettle}
use Rattle.mapdb_rights.proofs.laws.operations_unsettle.Goals as goal

pub returns : goal.returns
returns c = operations_unsettle
