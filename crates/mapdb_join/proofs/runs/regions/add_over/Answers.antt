use Rattle.std.proofs.Common.{sym, subst, ◌∙◌}
use Rattle.mapdb_join.specs.Runs.{IsOver, IsRuns}
use Rattle.mapdb_join.proofs.Changing.{is_over, placed, stays_runs}
use Rattle.mapdb_join.proofs.runs.regions.add_over.Goals as goal

pub returns-clause-runs : goal.returns-clause-runs
returns-clause-runs c =
    let xs = c.args.starts.now.items in
    let made = c.in_ok-low.field-0 in
    subst IsRuns
    (sym (placed xs c.as_slice.result.now c.args.first c.args.end c.args.bits made.low made.high c.as_slice-2.result.now c.replace.new.starts.items c.requires.runs.maximal c.as_slice.ensures c.in_ok-low.ensures.low c.in_ok-low.ensures.high (c.as_slice-2.ensures ∙ c.in_ok-low.ensures.list) c.in_ok-replace.ensures.ok))
    (stays_runs xs c.args.first c.args.end c.args.bits c.requires.runs c.requires.some.0 c.requires.some.1 c.requires.small)

pub returns-clause-over : goal.returns-clause-over
returns-clause-over c =
    let xs = c.args.starts.now.items in
    let made = c.in_ok-low.field-0 in
    subst (IsOver c.args.first c.args.end c.args.bits xs)
    (sym (placed xs c.as_slice.result.now c.args.first c.args.end c.args.bits made.low made.high c.as_slice-2.result.now c.replace.new.starts.items c.requires.runs.maximal c.as_slice.ensures c.in_ok-low.ensures.low c.in_ok-low.ensures.high (c.as_slice-2.ensures ∙ c.in_ok-low.ensures.list) c.in_ok-replace.ensures.ok))
    (is_over xs c.args.first c.args.end c.args.bits c.requires.runs c.requires.some.0)
