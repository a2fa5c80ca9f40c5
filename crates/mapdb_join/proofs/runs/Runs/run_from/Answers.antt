use Rattle.std.proofs.Common.{subst, arith}
use Rattle.mapdb_join.specs.Runs.{IsRuns}
use Rattle.mapdb_join.specs.Lawful.United.{bits_small, has_is}
use Rattle.mapdb_join.proofs.runs.Runs.run_from.Goals as goal

pub returns-clause-atoms : goal.returns-clause-atoms
returns-clause-atoms c = λ q bit. has_is c.args.self.now (q, bit) (subst IsRuns c.self.view_is c.self.invariant)

pub returns-clause-small : goal.returns-clause-small
returns-clause-small c = λ q. bits_small 0 c.args.self.now q (omega arith) (subst IsRuns c.self.view_is c.self.invariant).bounded
