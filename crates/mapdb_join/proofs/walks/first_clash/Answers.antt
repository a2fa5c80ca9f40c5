use Rattle.mapdb_join.proofs.Held.{one_clash}
use Rattle.mapdb_join.specs.Held.{entries_of}
use Rattle.mapdb_join.specs.Lawful.Exact.{exact_cmp}
use Rattle.mapdb_join.proofs.walks.first_clash.Goals as goal

pub returns-in-Some-clause-some : goal.returns-in-Some-clause-some
returns-in-Some-clause-some g c =
    let laws = g.met.K in
    rw c.in-One.is (one_clash g.V.Merge.has laws.Ord.total g.V.Merge.excludes (exact_cmp g.K.Ord.cmp laws.Ord.matches_eq laws.Exact.exact) (entries_of c.args.map.now) c.in-One.entry.key c.in-One.entry.value c.in-Some.spot c.in-Some.ensures.some)

pub returns-in-Tree-clause-some : goal.returns-in-Tree-clause-some
returns-in-Tree-clause-some g c = rw c.in-Tree.is c.first_in_tree.ensures.some
