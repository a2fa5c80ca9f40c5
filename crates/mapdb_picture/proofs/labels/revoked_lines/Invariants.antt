use Rattle.std.proofs.Common.{◌≡◌, ◌++◌, length}
use Rattle.std.specs.Prelude.{flat_map, string_bytes}
use Rattle.mapdb_facts.specs.Adding.{cut_at}
use Rattle.mapdb_facts.specs.Facts.{state_of_facts}
use Rattle.mapdb_facts.specs.Runs.{cut_runs}
use Rattle.mapdb_facts.proofs.Maps.CutRuns.{EndsBefore}
use Rattle.mapdb_picture.specs.Labels.{revoked_line, revoked_lines}
use Rattle.mapdb_picture.proofs.labels.revoked_lines.Given as goal

-- the text with the lines of the runs that are left, and no run crosses the page
abbrev pub invariant-runs : goal.invariant-runs
invariant-runs l = record {
  text : string_bytes l.text ++ flat_map revoked_line (cut_runs (state_of_facts l.facts) l.id l.page)
      ≡ revoked_lines (state_of_facts l.facts) l.id;
  apart : EndsBefore (cut_at (state_of_facts l.facts) l.id) l.page;
}

abbrev pub decreases-runs : goal.decreases-runs
decreases-runs l = length (cut_runs (state_of_facts l.facts) l.id l.page)
