-- What a fresh copy holds that takes what a snapshot says, and what is told of it.
use Rattle.std.specs.Prelude.{ℕ, List, [], Result, Ok, Err}
use Rattle.mapdb_facts.specs.declared.names.Space.{Space}
use Rattle.mapdb_facts.specs.declared.operations.Op.{Op}
use Rattle.mapdb_replica.specs.Taking.{take_outcome}
use Rattle.mapdb_replica.specs.declared.faults.TakeFault.{TakeFault}
use Rattle.mapdb_replica.specs.declared.faults.TakeFault.TheVariants as take
use Rattle.mapdb_snapshot.specs.Reading.{snapshot_of}
use Rattle.mapdb_snapshot.specs.declared.faults.SnapshotFault.{SnapshotFault}
use Rattle.mapdb_snapshot.specs.declared.faults.SnapshotFault.TheVariants as snapshot
use Rattle.mapdb_picture.specs.Explanation.{explanation_text}
use Rattle.mapdb_picture.specs.Picture.{picture_text}
use Rattle.mapdb_picture.specs.declared.faults.LoadFault.{LoadFault}
use Rattle.mapdb_picture.specs.declared.faults.LoadFault.TheVariants.{Memory, Snapshot, Take}

-- why a text is no snapshot, or that memory ran out
abbrev pub of_snapshot_fault : SnapshotFault → LoadFault
of_snapshot_fault snapshot.NotJson = Snapshot snapshot.NotJson
of_snapshot_fault snapshot.Shape = Snapshot snapshot.Shape
of_snapshot_fault snapshot.Version = Snapshot snapshot.Version
of_snapshot_fault (snapshot.Page fault) = Snapshot (snapshot.Page fault)
of_snapshot_fault snapshot.Memory = Memory

-- why a copy takes nothing, or that memory ran out
abbrev pub of_take_fault : TakeFault → LoadFault
of_take_fault (take.Bad place why) = Take (take.Bad place why)
of_take_fault (take.Clash id) = Take (take.Clash id)
of_take_fault take.Full = Take take.Full
of_take_fault (take.Memory count) = Memory

-- the operations that a copy takes, or why it takes none
abbrev pub or_take_fault : Result (List Op) TakeFault → Result (List Op) LoadFault
or_take_fault (Ok ops) = Ok ops
or_take_fault (Err fault) = Err (of_take_fault fault)

-- the operations that a copy which held nothing holds after it took these
abbrev pub taken_of : Result (List Op) SnapshotFault → Result (List Op) LoadFault
taken_of (Ok ops) = or_take_fault (take_outcome [] ops)
taken_of (Err fault) = Err (of_snapshot_fault fault)

-- the same of what a text says
abbrev pub loaded_of : List ℕ → Result (List Op) LoadFault
loaded_of bytes = taken_of (snapshot_of bytes)

-- a text of what is held
abbrev pub told_of : (List Op → List ℕ) → Result (List Op) LoadFault → Result (List ℕ) LoadFault
told_of text (Ok ops) = Ok (text ops)
told_of text (Err fault) = Err fault

-- the picture of a snapshot
abbrev pub pictured : List ℕ → Result (List ℕ) LoadFault
pictured bytes = told_of picture_text (loaded_of bytes)

-- what a snapshot explains of a page
abbrev pub explained : List ℕ → Space → ℕ → Result (List ℕ) LoadFault
explained bytes space page = told_of (λ ops. explanation_text ops space page) (loaded_of bytes)
