use Rattle.std.proofs.Common.{◌∙◌, sym}
use Rattle.std.proofs.lemmas.List.Elements.{recursion_from_All}
use Rattle.std.proofs.lemmas.Bool.{true≢false}
use Rattle.mapdb_join.proofs.Walking.{covered_first, entry_in}
use Rattle.mapdb_join.specs.Lawful.Exact.{exact_cmp}
use Rattle.mapdb_join.proofs.walks.covers_tree.Goals as goal

pub loop-key-init : goal.loop-key-init
loop-key-init g c =
    let f = c.into_iter-key-iterator.ensures.into_iter_gives in rw f.0 (covered_first _ _ (recursion_from_All _ _ f.6))

pub returns-then-not-covers_one : goal.returns-then-not-covers_one
returns-then-not-covers_one g c =
    let laws = g.met.K in
    let a = rw c.in-Some.ensures.steps at c.loop-key.invariant in
    let within = entry_in g.K.Ord.cmp g.V.Merge.has (exact_cmp g.K.Ord.cmp laws.Ord.matches_eq laws.Exact.exact) c.args.other.now.entries (c.in-Some.key.now, c.in-Some.theirs.now) a.found.0 in
    (λ h. absurd (true≢false (sym h)), λ i. absurd (true≢false (sym (c.covers_one.ensures.1 (λ p h. i p (within p h))) ∙ c.if-not-covers_one.true)))
