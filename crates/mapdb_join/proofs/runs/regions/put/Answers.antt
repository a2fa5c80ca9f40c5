use Rattle.std.proofs.Common.{◌≡◌, ℕ, sym, ◌∙◌, ap, arith, take, length, List}
use Rattle.std.proofs.lemmas.List.{take_all}
use Rattle.mapdb_join.specs.Runs.{last_bits}
use Rattle.mapdb_join.specs.declared.runs.starts.Start.{Start}
use Rattle.mapdb_join.specs.Lawful.Tidying.{put_new, put_same}
use Rattle.mapdb_join.proofs.runs.regions.put.Goals as goal

-- what is in front of the end is all
whole : (before : ℕ) (xs ys : List Start) (n r : ℕ) → ys ≡ xs → n ≡ length xs → r ≡ last_bits before (take n ys) → last_bits before xs ≡ r
whole before xs ys n r e l h =
    ap (last_bits before) (sym (take_all n xs (omega arith)) ∙ ap (take n) (sym e)) ∙ sym h

pub returns-in_ok-push : goal.returns-in_ok-push
returns-in_ok-push c =
    let w = whole c.args.before c.args.list.now.items c.as_slice.result.now c.len.result c.bits_before.result c.as_slice.ensures c.len.ensures.value c.bits_before.ensures in
    λ xs e. c.in_ok-push.ensures.ok ∙ put_new c.args.before xs c.args.list.now.items c.args.start e (λ h. c.if-bits_before-start.true (sym w ∙ h))

pub returns-else-bits_before-start : goal.returns-else-bits_before-start
returns-else-bits_before-start c =
    let w = whole c.args.before c.args.list.now.items c.as_slice.result.now c.len.result c.bits_before.result c.as_slice.ensures c.len.ensures.value c.bits_before.ensures in
    λ xs e. put_same c.args.before xs c.args.list.now.items c.args.start e (w ∙ c.if-bits_before-start.false)
