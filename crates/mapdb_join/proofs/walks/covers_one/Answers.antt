use Rattle.mapdb_join.specs.Held.{entries_of}
use Rattle.mapdb_join.proofs.Walking.{covers_held, covers_absent, held_from, absent_from}
use Rattle.mapdb_join.specs.Lawful.Exact.{exact_cmp}
use Rattle.mapdb_join.proofs.walks.covers_one.Goals as goal

pub returns-in-Some : goal.returns-in-Some
returns-in-Some g c =
    let laws = g.met.K in
    let h = covers_held g.V.Merge.has (exact_cmp g.K.Ord.cmp laws.Ord.matches_eq laws.Exact.exact) laws.Ord.total (entries_of c.args.map.now) c.args.key.now c.args.theirs.now c.in-Some.mine.now (held_from c.in-Some.is c.get.ensures) in
    (λ t. h.0 (c.covers.ensures.0 t), λ i. c.covers.ensures.1 (h.1 i))

pub returns-in-None : goal.returns-in-None
returns-in-None g c =
    let laws = g.met.K in
    let h = covers_absent g.V.Merge.has (exact_cmp g.K.Ord.cmp laws.Ord.matches_eq laws.Exact.exact) laws.Ord.total (entries_of c.args.map.now) c.args.key.now c.args.theirs.now (absent_from c.in-None.is c.get.ensures) in
    (λ t. h.0 (c.is_none.ensures.0 t), λ i. c.is_none.ensures.1 (h.1 i))
