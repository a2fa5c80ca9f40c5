-- What a call that takes a batch leaves and tells.
use Rattle.std.specs.Prelude.{◌≡◌, ◌⊎◌, ℕ, List, Result, Ok, Err}
use Rattle.mapdb_facts.specs.declared.operations.Op.{Op}
use Rattle.mapdb_replica.specs.Replica.{Log}
use Rattle.mapdb_replica.specs.Taking.{Takes, take_outcome}
use Rattle.mapdb_replica.specs.declared.faults.TakeFault.{TakeFault}
use Rattle.mapdb_replica.specs.declared.faults.TakeFault.TheVariants.{Bad, Clash, Full, Memory}
use Rattle.mapdb_c.specs.FaultStatuses.{op_status}
use Rattle.mapdb_c.specs.Reading.{KeepsSome, operations_from, unread_status}
use Rattle.mapdb_c.specs.declared.operations.RawOperation.{RawOperation}
use Rattle.mapdb_c.specs.declared.reading.Unread.{Unread}
use Rattle.mapdb_c.specs.declared.reading.Unread.TheVariants as unread
use Rattle.mapdb_c.specs.declared.statuses.Status.{Status}
use Rattle.mapdb_c.specs.declared.statuses.Status.TheVariants as status
use Rattle.mapdb_c.specs.declared.taking.Taken.{Taken}

-- so many operations were new
abbrev pub taken_with : ℕ → Taken
taken_with count = record { count = count; place = 0; number = 0; processor = 0; reserved = 0 }

-- a place of the batch
abbrev pub part_taken : ℕ → Taken
part_taken place = record { count = 0; place = place; number = 0; processor = 0; reserved = 0 }

-- what is told of a batch that was not taken, or not all of it
abbrev pub take_fault_told : TakeFault → Taken
take_fault_told (Bad place why) = part_taken place
take_fault_told (Clash id) = record {
  count = 0;
  place = 0;
  number = id.number;
  processor = id.processor;
  reserved = 0;
}
take_fault_told Full = taken_with 0
take_fault_told (Memory taken) = part_taken taken

abbrev pub take_status : TakeFault → Status
take_status (Bad place why) = op_status why
take_status (Clash id) = status.Clash
take_status Full = status.Full
take_status (Memory taken) = status.Memory

-- a batch's result is told by a status
abbrev pub batch_status : Result ℕ TakeFault → Status
batch_status (Ok count) = status.Done
batch_status (Err fault) = take_status fault

-- .. and by what was taken
abbrev pub batch_told : Result ℕ TakeFault → Taken
batch_told (Ok count) = taken_with count
batch_told (Err fault) = take_fault_told fault

-- What a batch at a copy leaves and tells: the copy takes it, and C is told the result.
pub record TakesAs (batch : List Op) (told : Status) (taken : Taken) (old new : Log) : Type 0 where
  pub result : Result ℕ TakeFault
  pub takes : Takes batch (take_outcome old.ops batch) result old new
  pub tells : told ≡ batch_status result
  pub counts : taken ≡ batch_told result

-- what is told of a batch that is not read
abbrev pub unread_told : Unread → Taken
unread_told (unread.Bad why place) = part_taken place
unread_told unread.Memory = taken_with 0

-- a batch is not read, for this
abbrev pub IsUnreadAs : Unread → Status → Taken → Log → Log → Type 0
IsUnreadAs why told taken old new = (told ≡ unread_status why) × (taken ≡ unread_told why)
    × (new ≡ old)

-- the batch is taken, or the first operation that is none is told, before the batch is looked at as
-- a whole
abbrev pub TakesRead : Result (List Op) Unread → Status → Taken → Log → Log → Type 0
TakesRead (Err why) told taken old new = IsUnreadAs why told taken old new
TakesRead (Ok batch) told taken old new = TakesAs batch told taken old new

-- What taking a batch of C's leaves and tells. Memory may run out for what was read, in place of all
-- else; where nothing is to be kept, it cannot.
abbrev pub TakesGiven : List RawOperation → Status → Taken → Log → Log → Type 0
TakesGiven raws told taken old new = TakesRead (operations_from 0 raws) told taken old new
    ⊎ (KeepsSome (operations_from 0 raws) × IsUnreadAs unread.Memory told taken old new)
