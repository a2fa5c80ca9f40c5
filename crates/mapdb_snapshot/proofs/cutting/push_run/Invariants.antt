use Rattle.std.proofs.Common.{◌≡◌, ◌≤◌, ◌+◌, ◌++◌, List}
use Rattle.std.specs.Prelude.{map, string_bytes}
use Rattle.mapdb_fpage.specs.Bounds.{page_limit}
use Rattle.mapdb_snapshot.specs.Cutting.{cuts_of_run}
use Rattle.mapdb_snapshot.specs.OpenLists.{closed_with}
use Rattle.mapdb_snapshot.specs.Snapshot.{cut_row}
use Rattle.mapdb_snapshot.proofs.Json.Adding.{rows_of}
use Rattle.serde_json.specs.Data.{Data}
use Rattle.mapdb_snapshot.proofs.cutting.push_run.Given as goal

-- the text with the rows of the pages that are left
abbrev pub invariant-places : goal.invariant-places
invariant-places l = record {
  limit : l.page + l.left ≤ page_limit;
  rows : (rows : List Data) → closed_with (string_bytes l.text) l.later (rows_of l.id l.run.rights l.page l.left ++ rows)
      ≡ closed_with (string_bytes l.fn.text) l.fn.later (map cut_row (cuts_of_run l.id l.run) ++ rows);
}

abbrev pub decreases-places : goal.decreases-places
decreases-places l = l.left
