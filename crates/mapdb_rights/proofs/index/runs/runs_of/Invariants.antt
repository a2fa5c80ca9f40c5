use Rattle.std.proofs.Common.{◌≡◌, ◌++◌, length}
use Rattle.mapdb_lists.specs.Changes.{cached_in}
use Rattle.mapdb_rights.specs.RightsRuns.{runs_behind}
use Rattle.mapdb_rights.proofs.index.runs.runs_of.Given as goal

-- those that were found, and those behind them
abbrev pub invariant-runs : goal.invariant-runs
invariant-runs l = l.runs.items ++ runs_behind (cached_in l.changes.own.entries l.id) l.page ≡ runs_behind (cached_in l.changes.own.entries l.id) 0

abbrev pub decreases-runs : goal.decreases-runs
decreases-runs l = length (runs_behind (cached_in l.changes.own.entries l.id) l.page)
