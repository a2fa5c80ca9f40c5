use Rattle.mapdb_join.specs.Held.{entries_of}
use Rattle.mapdb_join.proofs.Changes.{union_new, keys_at}
use Rattle.mapdb_join.proofs.Parts.{absent_apart}
use Rattle.mapdb_join.specs.Lawful.Exact.{exact_cmp}
use Rattle.mapdb_join.proofs.part.put_part.Goals as goal

pub returns-clause-ok : goal.returns-clause-ok
returns-clause-ok g c =
    let laws = g.met.K in
    let exact = exact_cmp g.K.Ord.cmp laws.Ord.matches_eq laws.Exact.exact in
    let old = entries_of c.args.map.now in
    let part = g.V.MergePart.alone c.args.part in (
      union_new exact laws.Ord.total g.V.Merge.has old _ c.args.key part _ c.requires c.in_ok-insert.ensures.alone c.in_ok-value.ensures,
      absent_apart g.V.Merge.has g.V.Merge.excludes exact laws.Ord.total old c.args.key part c.requires,
    )

pub returns-clause-keys : goal.returns-clause-keys
returns-clause-keys g c =
    let laws = g.met.K in
    let exact = exact_cmp g.K.Ord.cmp laws.Ord.matches_eq laws.Exact.exact in
    keys_at exact laws.Ord.total g.V.Merge.has (entries_of c.args.map.now) _ c.args.key (g.V.MergePart.alone c.args.part) _ c.in_ok-insert.ensures.alone
