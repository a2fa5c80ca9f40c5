use Rattle.mapdb_join.specs.Lawful.Exact.{exact_cmp}
use Rattle.mapdb_join.proofs.Changes.{union_at}
use Rattle.mapdb_join.proofs.laws.union_under_key.Goals as goal

pub returns : goal.returns
returns g c =
    let laws = g.met.K in union_at (exact_cmp g.K.Ord.cmp laws.Ord.matches_eq laws.Exact.exact) laws.Ord.total g.V.Merge.has
