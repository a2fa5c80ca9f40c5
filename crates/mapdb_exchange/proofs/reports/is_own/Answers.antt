use Rattle.std.proofs.Common.{sym}
use Rattle.mapdb_exchange.proofs.OwnOps.{own_here}
use Rattle.mapdb_exchange.proofs.reports.is_own.Goals as goal

pub returns-in-Some : goal.returns-in-Some
returns-in-Some c = λ h. own_here c.args.copy.now.own c.args.place c.in-Some.own c.args.op.now (sym c.in-Some.ensures) (c.is_same_op.ensures h)
