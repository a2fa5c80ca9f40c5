use Rattle.std.proofs.Common.{arith}
use Rattle.mapdb_lists.proofs.ChangeLemmas.ManyChanges.{next_shown}
use Rattle.mapdb_lists.proofs.many_changes.many_next.Goals as goal

pub returns-in-Some-clause-none : goal.returns-in-Some-clause-none
returns-in-Some-clause-none c q above before =
    next_shown c.args.map.now c.args.page _ _ _ c.in-Some.ensures.steps (c.range.ensures.in_range tt) q above (omega (arith, c.min.ensures))
