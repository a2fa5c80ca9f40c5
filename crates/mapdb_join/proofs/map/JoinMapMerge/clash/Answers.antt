use Rattle.mapdb_join.proofs.map.JoinMapMerge.clash.Goals as goal

pub returns-clause-some : goal.returns-clause-some
returns-clause-some g c = rw (← c.self.view_is, ← c.other.view_is) c.first_clash.ensures.some
