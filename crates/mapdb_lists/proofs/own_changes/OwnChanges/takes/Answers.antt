use Rattle.mapdb_lists.proofs.own_changes.OwnChanges.takes.Goals as goal

pub returns-in-Few-clause-before : goal.returns-in-Few-clause-before
returns-in-Few-clause-before c told = (c.takes.ensures.shown.0 told).0

pub returns-in-Few-clause-change : goal.returns-in-Few-clause-change
returns-in-Few-clause-change c told = (c.takes.ensures.shown.0 told).1
