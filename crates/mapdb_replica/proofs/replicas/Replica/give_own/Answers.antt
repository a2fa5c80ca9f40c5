use Rattle.std.proofs.Common.{rules}
use Rattle.mapdb_replica.proofs.replicas.Replica.give_own.Goals as goal

pub returns-clause-given : goal.returns-clause-given
returns-clause-given c = search rules

pub returns-clause-err : goal.returns-clause-err
returns-clause-err c = search rules
