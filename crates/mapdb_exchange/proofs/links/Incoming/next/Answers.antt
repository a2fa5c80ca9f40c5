use Rattle.mapdb_exchange.proofs.Carrying.{gets}
use Rattle.mapdb_exchange.proofs.links.Incoming.next.Goals as goal

pub recv_as-requires-clause-rule : goal.recv_as-requires-clause-rule
recv_as-requires-clause-rule g c = (gets _ _ c.self.invariant.1, λ items views h at. tt)

pub returns-in-Err-clause-received : goal.returns-in-Err-clause-received
returns-in-Err-clause-received g c = tt
