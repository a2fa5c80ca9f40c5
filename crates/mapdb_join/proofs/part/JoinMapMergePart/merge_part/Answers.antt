use Rattle.mapdb_join.proofs.part.JoinMapMergePart.merge_part.Goals as goal

pub returns-clause-err : goal.returns-clause-err
returns-clause-err g c = rw (← c.self.view_is) c.merge_at.ensures.err
