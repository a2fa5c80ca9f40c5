use Rattle.std.proofs.Common.{◌∙◌, sym}
use Rattle.std.proofs.lemmas.List.Elements.{recursion_from_All}
use Rattle.std.proofs.lemmas.Bool.{true≢false}
use Rattle.mapdb_join.proofs.Walking.{covered_first, none_of_entry}
use Rattle.mapdb_join.proofs.walks.none_in_tree.Goals as goal

pub loop-value-init : goal.loop-value-init
loop-value-init g c =
    let f = c.into_iter-value-iterator.ensures.into_iter_gives in rw f.0 (covered_first _ _ (recursion_from_All _ _ f.6))

pub returns-then-not-is_none : goal.returns-then-not-is_none
returns-then-not-is_none g c =
    let a = rw c.in-Some.ensures.steps at c.loop-value.invariant in
    (λ h. absurd (true≢false (sym h)), λ none. absurd (true≢false (sym (c.is_none.ensures.1 (none_of_entry g.K.Ord.cmp g.V.Merge.has a none)) ∙ c.if-not-is_none.true)))
