use Rattle.mapdb_rights.proofs.Rights.Settled.{settling_unsettles_children}
use Rattle.mapdb_rights.proofs.laws.settling_unsettles_children.Goals as goal

pub returns : goal.returns
returns c = settling_unsettles_children
