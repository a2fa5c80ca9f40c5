use Rattle.mapdb_join.proofs.Sides.{clash_first, clash_second}
use Rattle.mapdb_join.proofs.both.BothMerge.clash.Goals as goal

pub returns-in-Some-clause-some : goal.returns-in-Some-clause-some
returns-in-Some-clause-some g c =
    (clash_first g.A.Merge.has g.B.Merge.has _ _ c.args.self.now c.args.other.now c.in-Some.ensures.some.0, c.in-Some.ensures.some)

pub returns-in-Some-clash-clause-some : goal.returns-in-Some-clash-clause-some
returns-in-Some-clash-clause-some g c =
    (clash_second g.A.Merge.has g.B.Merge.has _ _ c.args.self.now c.args.other.now c.in-Some-clash.ensures.some.0, (c.in_default.ensures.none, c.in-Some-clash.ensures.some.0, c.in-Some-clash.ensures.some.1))
