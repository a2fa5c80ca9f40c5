use Rattle.mapdb_join.proofs.walks.covers_all.Goals as goal

pub returns-in-One : goal.returns-in-One
returns-in-One g c = rw c.in-One.is c.covers_one.ensures
