use Rattle.mapdb_rights.proofs.Settling.Pendings.{pending_front, pending_last, weight-last}
use Rattle.std.proofs.Common.{arith}
use Rattle.mapdb_rights.proofs.index.settling.keep_rest.Goals as goal

pub returns-in_ok-push-clause-pending : goal.returns-in_ok-push-clause-pending
returns-in_ok-push-clause-pending c id page h = rw c.in_ok-push.ensures.ok (pending_front _ _ id page h)

pub returns-in_ok-push-clause-rest : goal.returns-in_ok-push-clause-rest
returns-in_ok-push-clause-rest c id page h = rw c.in_ok-push.ensures.ok (pending_last _ _ id page h)

pub returns-in_ok-push-clause-weight : goal.returns-in_ok-push-clause-weight
returns-in_ok-push-clause-weight c base = rw c.in_ok-push.ensures.ok (rw (weight-last base) (omega arith))
