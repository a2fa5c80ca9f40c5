use Rattle.std.proofs.Common.{ap, ◌∙◌}
use Rattle.mapdb_fpage.specs.RightSets.{is_empty}
use Rattle.mapdb_lists.specs.Changes.{cached_in}
use Rattle.mapdb_rights.proofs.Steady.PageRuns.{run_behind}
use Rattle.mapdb_rights.proofs.index.runs.first_run.Goals as goal

pub returns-clause-first : goal.returns-clause-first
returns-clause-first c =
    let end = c.run_end-end.ensures in
    c.in_ok-first_page.ensures.behind
    ∙ run_behind (cached_in c.args.changes.now.own.entries c.args.id) c.cached_at-rights.result c.in_ok-first_page.first_page c.run_end-end.result
    (ap is_empty c.cached_at-rights.ensures ∙ c.in_ok-first_page.ensures.some) end.above end.limit end.same end.other
