use Rattle.mapdb_join.proofs.Held.{one_apart}
use Rattle.mapdb_join.specs.Held.{entries_of}
use Rattle.mapdb_join.specs.Lawful.Exact.{exact_cmp}
use Rattle.mapdb_join.proofs.walks.merge_all.Goals as goal

pub merge_one-requires : goal.merge_one-requires
merge_one-requires g c =
    let laws = g.met.K in
    one_apart g.V.Merge.has laws.Ord.total g.V.Merge.excludes (exact_cmp g.K.Ord.cmp laws.Ord.matches_eq laws.Exact.exact) (entries_of c.args.map.now) c.in-One.entry.key c.in-One.entry.value (rw c.in-One.is at c.requires)

pub merge_tree-requires : goal.merge_tree-requires
merge_tree-requires g c = rw c.in-Tree.is at c.requires
