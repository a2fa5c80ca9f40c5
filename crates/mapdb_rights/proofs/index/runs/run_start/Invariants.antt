use Rattle.std.proofs.Common.{◌≡◌, ◌-◌}
use Rattle.mapdb_fpage.specs.Bounds.{page_limit}
use Rattle.mapdb_lists.specs.Changes.{cached_in}
use Rattle.mapdb_rights.specs.RightsRuns.{runs_behind}
use Rattle.mapdb_rights.proofs.index.runs.run_start.Given as goal

-- behind the pages that were passed stand the same runs
abbrev pub invariant-pages : goal.invariant-pages
invariant-pages l = runs_behind (cached_in l.changes.own.entries l.id) l.page ≡ runs_behind (cached_in l.changes.own.entries l.id) l.start

abbrev pub decreases-pages : goal.decreases-pages
decreases-pages l = page_limit - l.start
