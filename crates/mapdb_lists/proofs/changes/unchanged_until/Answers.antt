use Rattle.std.proofs.Common.{arith}
use Rattle.mapdb_lists.proofs.ChangeLemmas.Writing.{seen_stays}
use Rattle.mapdb_lists.proofs.changes.unchanged_until.Goals as goal

pub returns-clause-same : goal.returns-clause-same
returns-clause-same c q from before =
    seen_stays c.args.changes.now.own.entries c.args.id c.args.page q from (omega arith) (λ p after up_to. c.next_change.ensures.none p after (omega arith))
