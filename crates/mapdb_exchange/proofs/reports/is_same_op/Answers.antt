use Rattle.std.proofs.Common.{sym, ◌∙◌}
use Rattle.mapdb_facts.specs.ExactOps.{exact_op}
use Rattle.mapdb_exchange.proofs.reports.is_same_op.Goals as goal

pub returns : goal.returns
returns c = λ yes. exact_op c.args.op.now c.args.other.now (sym c.eq.ensures ∙ yes)
