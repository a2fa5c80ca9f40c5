use Rattle.std.proofs.Common.{sym, ◌∙◌, arith, refl}
use Rattle.std.proofs.lemmas.Bool.{true≢false}
use Rattle.mapdb_join.proofs.RunWalks.{covers_first, covers_last, covers_next, covers_region, step_region}
use Rattle.mapdb_join.proofs.runs.walks.covers_all.Goals as goal

pub loop-index-init : goal.loop-index-init
loop-index-init c = covers_first c.args.mine.now c.args.theirs.now

pub has_over-requires-clause-some : goal.has_over-requires-clause-some
has_over-requires-clause-some c =
    step_region c.args.theirs.now c.loop-index.index c.requires.others (omega arith) (omega arith)

pub returns-then-not-has_over : goal.returns-then-not-has_over
returns-then-not-has_over c = (
  λ t. absurd (true≢false (sym t)),
  λ all. absurd (true≢false (sym (c.has_over.ensures.1 (covers_region c.args.mine.now c.args.theirs.now c.loop-index.index c.requires.others (omega arith) (omega arith) all)) ∙ c.if-not-has_over.true)),
)

pub loop-index-preserved : goal.loop-index-preserved
loop-index-preserved c =
    covers_next c.args.mine.now c.args.theirs.now c.loop-index.index c.requires.others (omega arith) (omega arith)
    (c.has_over.ensures.0 c.if-not-has_over.false) c.loop-index.invariant

pub returns : goal.returns
returns c =
    let h = covers_last c.args.mine.now c.args.theirs.now c.loop-index.index c.requires.others (omega arith) (λ k. omega arith) (omega arith) c.loop-index.invariant in
    (λ t. h, λ all. refl)
