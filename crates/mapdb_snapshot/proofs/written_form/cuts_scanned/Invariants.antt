use Rattle.std.proofs.Common.{drop, length}
use Rattle.std.specs.Prelude.{All}
use Rattle.mapdb_snapshot.specs.ComingBack.{IsRevocation}
use Rattle.mapdb_snapshot.specs.Snapshot.{cut_row}
use Rattle.mapdb_snapshot.proofs.Scans.OpenRows.{OpensWith}
use Rattle.mapdb_snapshot.proofs.written_form.cuts_scanned.Given as goal

-- the rows so far stand open
abbrev pub invariant-rows : goal.invariant-rows
invariant-rows l = record {
  rows : OpensWith cut_row l.cuts.items l.later (drop l.fn.at l.text) (drop l.at l.text);
  fits : All IsRevocation l.cuts.items;
}

abbrev pub decreases-rows : goal.decreases-rows
decreases-rows l = length (drop l.at l.text)
