-- What taking a batch tells is what it leaves.
use Rattle.std.proofs.Common.{◌≡◌, refl, sym, subst, inl, inr}
use Rattle.std.specs.Prelude.{◌⊎◌, ℕ, List, Result, Ok, Err}
use Rattle.mapdb_facts.specs.declared.operations.Op.{Op}
use Rattle.mapdb_replica.specs.Replica.{Log}
use Rattle.mapdb_replica.specs.Taking.{Takes, take_outcome}
use Rattle.mapdb_replica.specs.declared.faults.TakeFault.{TakeFault}
use Rattle.mapdb_c.specs.Reading.{KeepsSome, operations_from, unread_status}
use Rattle.mapdb_c.specs.declared.operations.RawOperation.{RawOperation}
use Rattle.mapdb_c.specs.Taking.{IsUnreadAs, TakesAs, TakesGiven, TakesRead, take_fault_told, take_status, taken_with, unread_told}
use Rattle.mapdb_c.specs.declared.reading.Unread.{Unread}
use Rattle.mapdb_c.specs.declared.reading.Unread.TheVariants as unread
use Rattle.mapdb_c.specs.declared.statuses.Status.{Status}
use Rattle.mapdb_c.specs.declared.statuses.Status.TheVariants as status
use Rattle.mapdb_c.specs.declared.taking.Taken.{Taken}

pub batch_done :
    (batch : List Op) (count : ℕ) (old new : Log)
    → Takes batch (take_outcome old.ops batch) (Ok count) old new
    → TakesAs batch status.Done (taken_with count) old new
batch_done batch count old new is =
    record { result = Ok count; takes = is; tells = refl; counts = refl }

pub batch_not_done :
    (batch : List Op) (fault : TakeFault) (old new : Log)
    → Takes batch (take_outcome old.ops batch) (Err fault) old new
    → TakesAs batch (take_status fault) (take_fault_told fault) old new
batch_not_done batch fault old new is =
    record { result = Err fault; takes = is; tells = refl; counts = refl }

-- the batch is read and taken
pub given_taken :
    (raws : List RawOperation) (batch : List Op) (told : Status) (taken : Taken) (old new : Log)
    → operations_from 0 raws ≡ Ok batch → TakesAs batch told taken old new
    → TakesGiven raws told taken old new
given_taken raws batch told taken old new is takes =
    inl (subst (λ (read : Result (List Op) Unread). TakesRead read told taken old new) (sym is) takes)

-- the batch is not read
pub given_unread :
    (raws : List RawOperation) (why : Unread) (old : Log)
    → ((why ≡ unread.Memory) × KeepsSome (operations_from 0 raws)) ⊎ (operations_from 0 raws ≡ Err why)
    → TakesGiven raws (unread_status why) (unread_told why) old old
given_unread raws why old (inl memory) =
    inr (memory.1, subst (λ (x : Unread). IsUnreadAs x (unread_status why) (unread_told why) old old) memory.0 (refl, refl, refl))
given_unread raws why old (inr is) =
    inl (subst (λ (read : Result (List Op) Unread). TakesRead read (unread_status why) (unread_told why) old old) (sym is) (refl, refl, refl))

-- what is told of a batch, taken or not
pub ruleset taking_told = (batch_done, batch_not_done)
