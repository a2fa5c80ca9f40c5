use Rattle.std.proofs.Common.{◌∙◌, sym, arith}
use Rattle.mapdb_join.specs.Lawful.United.{beyond}
use Rattle.mapdb_join.proofs.Running.{run_behind, run_in, run_none}
use Rattle.mapdb_join.proofs.runs.starts.run_index.Goals as goal

pub returns-then-page-ge-RUN_LIMIT-clause-none : goal.returns-then-page-ge-RUN_LIMIT-clause-none
returns-then-page-ge-RUN_LIMIT-clause-none c = λ q lo. beyond c.args.starts.now q c.requires (omega arith)

pub returns-then-bits_before-ne0-clause-some : goal.returns-then-bits_before-ne0-clause-some
returns-then-bits_before-ne0-clause-some c =
    (run_in c.args.starts.now c.args.page c.starts_below-index.result c.requires (sym c.starts_below-index.ensures.count) (λ z. c.if-bits_before-ne0.true (c.bits_before.ensures ∙ z))).2

pub returns-then-index-starts-clause-bound : goal.returns-then-index-starts-clause-bound
returns-then-index-starts-clause-bound c =
    let h = (run_behind c.args.starts.now c.args.page c.starts_below-index.result c.requires (sym c.starts_below-index.ensures.count) (sym c.bits_before.ensures ∙ c.if-bits_before-ne0.false) (omega arith)).0 in
    omega (arith, h)

pub returns-then-index-starts-clause-some : goal.returns-then-index-starts-clause-some
returns-then-index-starts-clause-some c =
    (run_behind c.args.starts.now c.args.page c.starts_below-index.result c.requires (sym c.starts_below-index.ensures.count) (sym c.bits_before.ensures ∙ c.if-bits_before-ne0.false) (omega arith)).1

pub returns-clause-none : goal.returns-clause-none
returns-clause-none c =
    run_none c.args.starts.now c.args.page c.starts_below-index.result c.requires (sym c.starts_below-index.ensures.count) (omega arith)
