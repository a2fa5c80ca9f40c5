use Rattle.std.proofs.lemmas.List.Elements.{recursion_from_All}
use Rattle.mapdb_join.proofs.Walking.{parted_first, parted_last, parted_next, parted_found}
use Rattle.mapdb_join.specs.Lawful.Exact.{exact_cmp}
use Rattle.mapdb_join.proofs.walks.first_in_tree.Goals as goal

pub loop-key-init : goal.loop-key-init
loop-key-init g c =
    let f = c.into_iter-key-iterator.ensures.into_iter_gives in rw f.0 (parted_first _ _ (recursion_from_All _ _ f.6) f.5)

pub returns-in-Some-clash_under-clause-some : goal.returns-in-Some-clash_under-clause-some
returns-in-Some-clash_under-clause-some g c =
    let laws = g.met.K in
    let a = rw c.in-Some.ensures.steps at c.loop-key.invariant in
    let u = rw c.in-Some-clash_under.is at c.clash_under.ensures.some in
    parted_found (exact_cmp g.K.Ord.cmp laws.Ord.matches_eq laws.Exact.exact) laws.Ord.total (c.in-Some.key.now, c.in-Some.theirs.now) c.next.new.self c.in-Some-clash_under.spot u a

pub loop-key-preserved : goal.loop-key-preserved
loop-key-preserved g c =
    let laws = g.met.K in
    let a = rw c.in-Some.ensures.steps at c.loop-key.invariant in
    parted_next (exact_cmp g.K.Ord.cmp laws.Ord.matches_eq laws.Exact.exact) (c.in-Some.key.now, c.in-Some.theirs.now) c.next.new.self c.in_default.ensures.none a

pub returns-clause-none : goal.returns-clause-none
returns-clause-none g c = parted_last (rw c.in-None.ensures.steps.0 at c.loop-key.invariant)
