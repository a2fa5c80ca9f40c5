use Rattle.mapdb_join.proofs.Bounds.{bound_from_union}
use Rattle.mapdb_join.proofs.laws.bound_where_no_clash.Goals as goal

pub returns : goal.returns
returns g c =
    λ a b p q h. let m = g.T.Merge in let r = g.met.T.Merge.joined a b p q h in (r.0, r.1, bound_from_union m.has a b r.0 r.2)
