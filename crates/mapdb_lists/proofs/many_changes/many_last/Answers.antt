use Rattle.mapdb_lists.proofs.ChangeLemmas.ManyChanges.{last_shown}
use Rattle.mapdb_lists.proofs.many_changes.many_last.Goals as goal

pub returns-in-Some : goal.returns-in-Some
returns-in-Some c = last_shown c.args.map.now c.args.page _ _ _ c.in-Some.ensures.steps (c.range.ensures.in_range tt)
