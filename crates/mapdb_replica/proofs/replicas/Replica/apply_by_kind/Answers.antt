use Rattle.std.proofs.Common.{rules}
use Rattle.mapdb_replica.proofs.replicas.Replica.apply_by_kind.Goals as goal

pub returns-in_err-names-in-Map-clause-applies : goal.returns-in_err-names-in-Map-clause-applies
returns-in_err-names-in-Map-clause-applies c = search rules

pub returns-in_ok-names-in-Map-clause-applies : goal.returns-in_ok-names-in-Map-clause-applies
returns-in_ok-names-in-Map-clause-applies c = search rules
