use Rattle.std.proofs.Common.{refl}
use Rattle.mapdb_join.proofs.map.JoinMapMerge.merge.Goals as goal

pub returns-in-Some-clause-err : goal.returns-in-Some-clause-err
returns-in-Some-clause-err g c =
    rw (← c.self.view_is, ← c.other.view_is) (c.in-Some.ensures.some.0, c.in-Some.ensures.some.1, refl)
