-- How far memory lasts in one call, and what the result of the call tells of that.
use Rattle.std.specs.Prelude.{ℕ, ◌<◌, Bool, true, false, List, length, take, Result, Ok, Err}
use Rattle.mapdb_replica.specs.declared.faults.IssueFault.{IssueFault}
use Rattle.mapdb_replica.specs.declared.faults.IssueFault.TheVariants as issue
use Rattle.mapdb_replica.specs.declared.faults.TakeFault.{TakeFault}
use Rattle.mapdb_replica.specs.declared.faults.TakeFault.TheVariants as take_fault

-- Memory is enough for the whole call, or it ends after so many operations.
pub data Memory : Type 0 where
  Enough : Memory
  EndsAfter : (count : ℕ) → Memory

-- memory ends before the call is done
abbrev pub ends : Memory → Bool
ends Enough = false
ends (EndsAfter count) = true

-- the operations for which memory lasts: all of them, or the first so many
abbrev pub lasting : {A : Type 0} → Memory → List A → List A
lasting Enough ops = ops
lasting (EndsAfter count) ops = take count ops

-- where memory ends, it ends before the last of these
abbrev pub EndsWithin : {A : Type 0} → Memory → List A → Type 0
EndsWithin Enough ops = Unit {0}
EndsWithin (EndsAfter count) ops = count < length ops

-- how far memory lasted, as a fault tells
abbrev pub issue_fault_memory : IssueFault → Memory
issue_fault_memory (issue.SpaceEnded space) = Enough
issue_fault_memory issue.RootSpace = Enough
issue_fault_memory issue.NumbersSpent = Enough
issue_fault_memory issue.Full = Enough
issue_fault_memory (issue.Memory count) = EndsAfter count

abbrev pub take_fault_memory : TakeFault → Memory
take_fault_memory (take_fault.Bad place why) = Enough
take_fault_memory (take_fault.Clash id) = Enough
take_fault_memory take_fault.Full = Enough
take_fault_memory (take_fault.Memory count) = EndsAfter count

-- how far memory lasted, as the result of a call tells
abbrev pub issue_memory : {A : Type 0} → Result A IssueFault → Memory
issue_memory (Ok answer) = Enough
issue_memory (Err fault) = issue_fault_memory fault

abbrev pub take_memory : Result ℕ TakeFault → Memory
take_memory (Ok count) = Enough
take_memory (Err fault) = take_fault_memory fault
