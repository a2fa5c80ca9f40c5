use Rattle.mapdb_rights.proofs.Rights.Settled.{settled_is_exact}
use Rattle.mapdb_rights.proofs.laws.settled_is_exact.Goals as goal

pub returns : goal.returns
returns c = settled_is_exact
