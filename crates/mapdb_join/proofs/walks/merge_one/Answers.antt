use Rattle.mapdb_join.proofs.Changes.{union_at, union_new, between_at, keys_at, keys_same, left_between}
use Rattle.mapdb_join.proofs.Parts.{held_from_mut, absent_from_mut}
use Rattle.std.proofs.Common.{ap}
use Rattle.std.specs.Option.{is_some}
use Rattle.mapdb_join.specs.Held.{entries_of}
use Rattle.mapdb_join.specs.Lawful.Exact.{exact_cmp}
use Rattle.mapdb_join.proofs.walks.merge_one.Goals as goal

pub returns-in-Ok-clause-ok : goal.returns-in-Ok-clause-ok
returns-in-Ok-clause-ok g c =
    let laws = g.met.K in
    let exact = exact_cmp g.K.Ord.cmp laws.Ord.matches_eq laws.Exact.exact in
    let at = held_from_mut {r = c.get_mut.result} {v = c.in-Some.mine} c.in-Some.is c.get_mut.ensures.value in
    let u = (c.get_mut.follows.holds c.merge.new.self).changed (ap is_some at) in
    union_at exact laws.Ord.total g.V.Merge.has (entries_of c.args.map.now) _ c.args.key c.in-Some.mine.now c.args.value.now c.merge.new.self at u c.in-Ok.ensures.ok.0

pub returns-in-Ok-clause-keys : goal.returns-in-Ok-clause-keys
returns-in-Ok-clause-keys g c =
    let laws = g.met.K in
    let exact = exact_cmp g.K.Ord.cmp laws.Ord.matches_eq laws.Exact.exact in
    let at = held_from_mut {r = c.get_mut.result} {v = c.in-Some.mine} c.in-Some.is c.get_mut.ensures.value in
    let u = (c.get_mut.follows.holds c.merge.new.self).changed (ap is_some at) in
    keys_at exact laws.Ord.total g.V.Merge.has (entries_of c.args.map.now) _ c.args.key c.args.value.now c.merge.new.self u

pub returns-in-Err-clause-err : goal.returns-in-Err-clause-err
returns-in-Err-clause-err g c =
    let laws = g.met.K in
    let exact = exact_cmp g.K.Ord.cmp laws.Ord.matches_eq laws.Exact.exact in
    let at = held_from_mut {r = c.get_mut.result} {v = c.in-Some.mine} c.in-Some.is c.get_mut.ensures.value in
    let u = (c.get_mut.follows.holds c.merge.new.self).changed (ap is_some at) in
    let left = left_between g.V.Merge.has g.V.Merge.excludes g.V.Merge.is_spot c.in-Some.mine.now c.args.value.now c.merge.new.self c.in-Err.fault c.in-Err.ensures.err in
    between_at exact laws.Ord.total g.V.Merge.has (entries_of c.args.map.now) _ c.args.key c.in-Some.mine.now c.args.value.now c.merge.new.self at u left

pub returns-in-Err-clause-keys_stay : goal.returns-in-Err-clause-keys_stay
returns-in-Err-clause-keys_stay g c =
    let laws = g.met.K in
    let exact = exact_cmp g.K.Ord.cmp laws.Ord.matches_eq laws.Exact.exact in
    let at = held_from_mut {r = c.get_mut.result} {v = c.in-Some.mine} c.in-Some.is c.get_mut.ensures.value in
    let u = (c.get_mut.follows.holds c.merge.new.self).changed (ap is_some at) in
    keys_same exact laws.Ord.total g.V.Merge.has (entries_of c.args.map.now) _ c.args.key c.in-Some.mine.now c.merge.new.self at u

pub returns-clause-ok : goal.returns-clause-ok
returns-clause-ok g c =
    let laws = g.met.K in
    let exact = exact_cmp g.K.Ord.cmp laws.Ord.matches_eq laws.Exact.exact in
    let at = absent_from_mut {r = c.get_mut.result} c.in_default.is c.get_mut.ensures.value in
    union_new exact laws.Ord.total g.V.Merge.has (entries_of c.args.map.now) _ c.args.key c.args.value.now _ at (rw c.get_mut.follows.holds-at-none at c.in_ok-insert.ensures.alone) c.in_ok-copy.ensures

pub returns-clause-keys : goal.returns-clause-keys
returns-clause-keys g c =
    let laws = g.met.K in
    let exact = exact_cmp g.K.Ord.cmp laws.Ord.matches_eq laws.Exact.exact in
    keys_at exact laws.Ord.total g.V.Merge.has (entries_of c.args.map.now) _ c.args.key c.args.value.now _ (rw c.get_mut.follows.holds-at-none at c.in_ok-insert.ensures.alone)
