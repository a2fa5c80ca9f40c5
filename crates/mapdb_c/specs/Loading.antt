-- What a call that takes a snapshot leaves and tells.
use Rattle.std.specs.Prelude.{◌≡◌, ◌⊎◌, ℕ, List, Result, Ok, Err}
use Rattle.mapdb_facts.specs.declared.operations.Op.{Op}
use Rattle.mapdb_replica.specs.Replica.{Log}
use Rattle.mapdb_snapshot.specs.Reading.{snapshot_of}
use Rattle.mapdb_snapshot.specs.declared.faults.SnapshotFault.{SnapshotFault}
use Rattle.mapdb_snapshot.specs.declared.faults.SnapshotFault.TheVariants.{Memory, NotJson, Page}
use Rattle.mapdb_snapshot.specs.declared.faults.SnapshotFault.TheVariants.{Shape, Version}
use Rattle.mapdb_c.specs.FaultStatuses.{place_status}
use Rattle.mapdb_c.specs.Taking.{TakesAs, taken_with}
use Rattle.mapdb_c.specs.declared.statuses.Status.{Status}
use Rattle.mapdb_c.specs.declared.statuses.Status.TheVariants as status
use Rattle.mapdb_c.specs.declared.taking.Taken.{Taken}

-- the status of a text that is no snapshot
abbrev pub text_status : SnapshotFault → Status
text_status NotJson = status.NotJson
text_status Shape = status.SnapshotShape
text_status Version = status.SnapshotVersion
text_status (Page why) = place_status why
text_status Memory = status.Memory

-- a text is not read, for this
abbrev pub IsNotRead : SnapshotFault → Status → Taken → Log → Log → Type 0
IsNotRead why told taken old new = (told ≡ text_status why) × (taken ≡ taken_with 0)
    × (new ≡ old)

-- what taking a text that was read leaves and tells: what it says is taken as a batch
abbrev pub LoadsRead : Result (List Op) SnapshotFault → Status → Taken → Log → Log → Type 0
LoadsRead (Err why) told taken old new = IsNotRead why told taken old new
LoadsRead (Ok batch) told taken old new = TakesAs batch told taken old new

-- What taking a text leaves and tells. To read it, memory may run out in place of all else.
abbrev pub LoadsAs : List ℕ → Status → Taken → Log → Log → Type 0
LoadsAs text told taken old new = LoadsRead (snapshot_of text) told taken old new
    ⊎ IsNotRead Memory told taken old new
