use Rattle.mapdb_facts.proofs.holding.Facts.ended.Goals as goal

pub returns : goal.returns
returns c = rw (← c.self.view_is) c.has.ensures
