use Rattle.mapdb_join.specs.Held.{entries_of}
use Rattle.std.specs.Option.{is_some}
use Rattle.std.proofs.Common.{ap}
use Rattle.std.proofs.lemmas.Result.{on_ok_weaker}
use Rattle.mapdb_join.proofs.Changes.{union_at, keys_at}
use Rattle.mapdb_join.proofs.Parts.{refused_under, held_from_mut, clash_down}
use Rattle.mapdb_join.specs.Lawful.Exact.{exact_cmp}
use Rattle.mapdb_join.proofs.part.merge_at.Goals as goal

pub returns-in-Some-clause-ok : goal.returns-in-Some-clause-ok
returns-in-Some-clause-ok g c =
    let laws = g.met.K in
    let exact = exact_cmp g.K.Ord.cmp laws.Ord.matches_eq laws.Exact.exact in
    let at = held_from_mut {r = c.get_mut.result} {v = c.in-Some.mine} c.in-Some.is c.get_mut.ensures.value in
    let u = (c.get_mut.follows.holds c.merge_part.new.self).changed (ap is_some at) in
    let old = entries_of c.args.map.now in
    let part = g.V.MergePart.alone c.args.part in
    on_ok_weaker c.merge_part.result (λ h. (
      union_at exact laws.Ord.total g.V.Merge.has old _ c.args.key c.in-Some.mine.now part c.merge_part.new.self at u h.0,
      λ clash. h.1 (clash_down g.V.Merge.has g.V.Merge.excludes exact laws.Ord.total old c.args.key part c.in-Some.mine.now at clash),
    )) c.merge_part.ensures.ok

pub returns-in-Some-clause-err : goal.returns-in-Some-clause-err
returns-in-Some-clause-err g c =
    let laws = g.met.K in
    refused_under g.V.Merge.has g.V.Merge.excludes (exact_cmp g.K.Ord.cmp laws.Ord.matches_eq laws.Exact.exact) laws.Ord.total c.merge_part.result (entries_of c.args.map.now) _ c.args.key (g.V.MergePart.alone c.args.part) c.in-Some.mine.now c.merge_part.new.self (held_from_mut {r =
    c.get_mut.result} {v = c.in-Some.mine} c.in-Some.is c.get_mut.ensures.value) (c.get_mut.follows.holds c.merge_part.new.self).entries c.merge_part.ensures.err

pub returns-in-Some-clause-keys : goal.returns-in-Some-clause-keys
returns-in-Some-clause-keys g c =
    let laws = g.met.K in
    let exact = exact_cmp g.K.Ord.cmp laws.Ord.matches_eq laws.Exact.exact in
    let at = held_from_mut {r = c.get_mut.result} {v = c.in-Some.mine} c.in-Some.is c.get_mut.ensures.value in
    let u = (c.get_mut.follows.holds c.merge_part.new.self).changed (ap is_some at) in
    on_ok_weaker c.merge_part.result (λ h. keys_at exact laws.Ord.total g.V.Merge.has (entries_of c.args.map.now) _ c.args.key (g.V.MergePart.alone c.args.part) c.merge_part.new.self u) c.merge_part.ensures.ok
