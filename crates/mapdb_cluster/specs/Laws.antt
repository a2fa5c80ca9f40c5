-- What holds of every run of a cluster.
use Rattle.std.specs.Prelude.{◌≡◌, ℕ, true, false, ◌&&◌, ◌++◌, List, slice_get, Some}
use Rattle.mapdb_fpage.specs.declared.right_sets.Right.{Right}
use Rattle.mapdb_facts.specs.Names.{is_root}
use Rattle.mapdb_facts.specs.State.{HasAtom, IsSound, Rec, SameAtoms, state_of}
use Rattle.mapdb_facts.specs.WellFormed.{all_formed}
use Rattle.mapdb_facts.specs.declared.names.RecordId.{RecordId}
use Rattle.mapdb_facts.specs.declared.operations.Op.{Op}
use Rattle.mapdb_facts.specs.declared.operations.Record.{Record}
use Rattle.mapdb_rights.specs.Backing.{IsBacked}
use Rattle.mapdb_rights.specs.Right.{has_right}
use Rattle.mapdb_replica.specs.Agreement.{LookAlike, knows_all}
use Rattle.mapdb_replica.specs.Bounds.{IsLeastBound}
use Rattle.mapdb_replica.specs.Replica.{Log}
use Rattle.mapdb_cluster.specs.Net.{Net}
use Rattle.mapdb_cluster.specs.Run.{Move, Run, after, copy_of, took, took_in}

-- no two different records of a copy have one name
abbrev pub AreSound : Net → Type 0
AreSound net = (at : ℕ) (copy : Log) → slice_get net.copies at ≡ Some copy → IsSound copy.ops

-- A processor's copy after moves: it holds exactly what it held before and what it took, and is
-- sound.
pub record HoldsTook (net : Net) (moves : List Move) (at : ℕ) (before : Log) : Type 0 where
  pub copy : Log
  pub there : slice_get (after net moves).copies at ≡ Some copy
  pub atoms : SameAtoms copy.ops (before.ops ++ took net moves at)
  pub sound : IsSound copy.ops

-- exact schedules: each copy holds exactly the atoms that it held before and those that it took
abbrev pub SchedulesAreExact : Type 0
SchedulesAreExact =
    (net : Net) (moves : List Move) → AreSound net → (at : ℕ) (before : Log)
    → slice_get net.copies at ≡ Some before → HoldsTook net moves at before

-- Two copies hold the same, give the same answers for every page of every space, and are told to be
-- the same.
pub record AreAlike (copy other : Log) : Type 0 where
  pub atoms : SameAtoms copy.ops other.ops
  pub alike : LookAlike copy.ops other.ops
  pub told : (knows_all copy.ops other.ops && knows_all other.ops copy.ops) ≡ true

-- Agreement: copies that took the same agree, of one run or of two, in whatever order it came.
abbrev pub CopiesAgree : Type 0
CopiesAgree =
    (run another : Run) (at other : ℕ) (copy other_copy : Log) → copy_of run at ≡ Some copy
    → copy_of another other ≡ Some other_copy
    → SameAtoms (took_in run at) (took_in another other) → AreAlike copy other_copy

-- the copy of a processor in a run
abbrev pub IsCopyOfRun : Log → Type 0
IsCopyOfRun copy = (run : Run) × (at : ℕ) × (copy_of run at ≡ Some copy)

-- Least upper bound: a copy of a run that joins well-formed operations becomes the least of both,
-- and they are refused as a clash exactly where nothing sound has both.
abbrev pub CopyJoinIsLeast : Type 0
CopyJoinIsLeast = (copy : Log) (ops : List Op) → IsCopyOfRun copy → all_formed ops ≡ true
    → IsLeastBound copy.ops ops

-- No escalation: what a record of a copy has, its parent is there to have at the source page.
abbrev pub NoEscalation : Type 0
NoEscalation =
    (copy : Log) (id : RecordId) (page : ℕ) (right : Right) → IsCopyOfRun copy
    → has_right (state_of copy.ops) id page right ≡ true → is_root id ≡ false
    → (r : Record) × (HasAtom copy.ops (Rec r)) × (r.id ≡ id)
    × IsBacked (state_of copy.ops) r page right
