-- A row of a record, by how many of its numbers name a space.
use Rattle.std.proofs.Common.{ℕ, ◌+◌, Result, Ok}
use Rattle.serde_json.specs.Data.{Data}
use Rattle.mapdb_facts.specs.declared.operations.Op.{Op}
use Rattle.mapdb_facts.specs.declared.operations.Op.TheVariants.{Born}
use Rattle.mapdb_snapshot.specs.Reading.{◌>>=◌, Somewhere, name_at, number_at, rights_read, row_read, space_read_at, unplaced_at}
use Rattle.mapdb_snapshot.specs.declared.faults.SnapshotFault.{SnapshotFault}
use Rattle.mapdb_snapshot.specs.declared.forms.Form.{Form}

-- what `record_of` reads, with so many numbers for the space
abbrev pub record_with_places : Form → ℕ → Data → Result (Somewhere Op) SnapshotFault
record_with_places form places d = do
  row ← row_read (8 + places) d
  id ← name_at 0 row
  space ← space_read_at form 2 row
  place ← unplaced_at form (2 + places) row
  parent ← name_at (4 + places) row
  source ← number_at (6 + places) (form.most_source + 1) row
  rights ← rights_read (7 + places) row
  Ok (record {
    place = place;
    value = λ at. Born (record { id = id; space = space; place = at; parent = parent; source = source; rights = rights });
  })
