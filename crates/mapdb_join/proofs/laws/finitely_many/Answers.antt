use Rattle.mapdb_join.proofs.laws.finitely_many.Goals as goal

pub returns : goal.returns
returns g c = λ a. (g.T.Merge.atoms a, g.met.T.Merge.finite a)
