use Rattle.std.proofs.Common.{drop, length}
use Rattle.std.specs.Prelude.{All}
use Rattle.mapdb_facts.specs.Values.{IsSpace}
use Rattle.mapdb_snapshot.specs.Snapshot.{ended_row}
use Rattle.mapdb_snapshot.proofs.Scans.OpenRows.{OpensWith}
use Rattle.mapdb_snapshot.proofs.written_form.ended_scanned.Given as goal

-- the rows so far stand open
abbrev pub invariant-rows : goal.invariant-rows
invariant-rows l = record {
  rows : OpensWith ended_row l.ended.items l.later (drop l.fn.at l.text) (drop l.at l.text);
  fits : All IsSpace l.ended.items;
}

abbrev pub decreases-rows : goal.decreases-rows
decreases-rows l = length (drop l.at l.text)
