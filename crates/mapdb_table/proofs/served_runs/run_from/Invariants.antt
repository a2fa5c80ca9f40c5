use Rattle.std.proofs.Common.{ℕ, ◌-◌, ◌<◌, ◌≤◌, drop, length}
use Rattle.std.specs.Prelude.{Option}
use Rattle.mapdb_fpage.specs.Bounds.{page_limit}
use Rattle.mapdb_replica.specs.Pairs.{Pair}
use Rattle.mapdb_replica.specs.Running.{IsSteadyPart}
use Rattle.mapdb_rights.specs.ShownSpaces.{CoverPages}
use Rattle.mapdb_table.proofs.PartRuns.{RunsTo}
use Rattle.mapdb_table.proofs.served_runs.run_from.Given as goal

-- the parts so far belong to the run
abbrev pub invariant-parts : goal.invariant-parts
invariant-parts l = record {
  fewer : l.place < l.behind;
  within : l.behind ≤ length l.parts;
  runs : (f : ℕ → Option Pair) (page : ℕ) → CoverPages (IsSteadyPart f) page page_limit (drop l.place l.parts) → RunsTo f page l.first l.end (drop l.behind l.parts);
}

abbrev pub decreases-parts : goal.decreases-parts
decreases-parts l = length l.parts - l.behind
