use Rattle.std.proofs.Common.{◌≡◌, ◌++◌, List, length}
use Rattle.std.specs.Prelude.{map, string_bytes}
use Rattle.mapdb_facts.specs.Adding.{cut_at}
use Rattle.mapdb_facts.specs.Facts.{state_of_facts}
use Rattle.mapdb_facts.specs.Runs.{cut_runs}
use Rattle.mapdb_facts.proofs.Maps.CutRuns.{EndsBefore}
use Rattle.mapdb_snapshot.specs.Cutting.{cuts_of_runs}
use Rattle.mapdb_snapshot.specs.OpenLists.{closed_with}
use Rattle.mapdb_snapshot.specs.Snapshot.{cut_row}
use Rattle.serde_json.specs.Data.{Data}
use Rattle.mapdb_snapshot.proofs.cutting.push_runs.Given as goal

-- the text with the rows of the runs that are left, and no run crosses the page
abbrev pub invariant-runs : goal.invariant-runs
invariant-runs l = record {
  rows : (rows : List Data) → closed_with (string_bytes l.text) l.later
      (map cut_row (cuts_of_runs l.id (cut_runs (state_of_facts l.facts) l.id l.page)) ++ rows)
      ≡ closed_with (string_bytes l.fn.text) l.fn.later (map cut_row (cuts_of_runs l.id (cut_runs (state_of_facts l.facts) l.id 0)) ++ rows);
  apart : EndsBefore (cut_at (state_of_facts l.facts) l.id) l.page;
}

abbrev pub decreases-runs : goal.decreases-runs
decreases-runs l = length (cut_runs (state_of_facts l.facts) l.id l.page)
