-- What calls leave, case by case: nothing where they are refused, else all that they do, or as far as memory lasted.
use Rattle.std.proofs.Common.{◌≡◌, ℕ, ◌<◌, inl, inr, List, length, take}
use Rattle.std.specs.Prelude.{◌⊎◌, Some, None, Result, Ok, Err}
use Rattle.mapdb_facts.specs.State.{state_of}
use Rattle.mapdb_facts.specs.declared.operations.Op.{Op}
use Rattle.mapdb_replica.specs.Memory.{EndsAfter, Enough, Memory, take_fault_memory}
use Rattle.mapdb_replica.specs.Replica.{Issues, Log, news, with_issued}
use Rattle.mapdb_replica.specs.Taking.{Takes, take_refusal_told, with_taken}
use Rattle.mapdb_replica.specs.declared.faults.IssueFault.{IssueFault}
use Rattle.mapdb_replica.specs.declared.faults.IssueFault.TheVariants as issue
use Rattle.mapdb_replica.specs.declared.faults.TakeFault.{TakeFault}
use Rattle.mapdb_replica.specs.declared.faults.TakeFault.TheVariants as take_fault

-- A call that issues.

abbrev pub IssueCases : {A : Type 0} → Result (List Op) IssueFault → Result A IssueFault → Log → Log → Type 0
IssueCases (Ok ops) (Ok answer) old new = new ≡ with_issued old ops
IssueCases (Ok ops) (Err (issue.Memory n)) old new = (n < length ops) × (new ≡ with_issued old (take n ops))
IssueCases (Err refusal) (Err fault) old new = (fault ≡ refusal) × (new ≡ old)
IssueCases outcome result old new = ⊥

none_told : (fault : IssueFault) → None ≡ Some fault → ⊥
none_told fault e = cc

one_told : (fault : IssueFault) → Some fault ≡ None → ⊥
one_told fault e = cc

same_told : (fault refusal : IssueFault) → Some fault ≡ Some refusal → fault ≡ refusal
same_told fault refusal e = cc

pub issue_cases : {A : Type 0} → (outcome : Result (List Op) IssueFault) (result : Result A IssueFault) (old new : Log) → Issues outcome result old new → IssueCases outcome result old new
issue_cases (Ok ops) (Ok answer) old new is = is.1
issue_cases (Ok ops) (Err (issue.Memory n)) old new is = (is.2, is.1)
issue_cases (Ok ops) (Err (issue.SpaceEnded space)) old new is = one_told (issue.SpaceEnded space) is.0
issue_cases (Ok ops) (Err issue.RootSpace) old new is = one_told issue.RootSpace is.0
issue_cases (Ok ops) (Err issue.NumbersSpent) old new is = one_told issue.NumbersSpent is.0
issue_cases (Ok ops) (Err issue.Full) old new is = one_told issue.Full is.0
issue_cases (Err refusal) (Ok answer) old new is = none_told refusal is.0
issue_cases (Err refusal) (Err fault) old new is = (same_told fault refusal is.0, is.1)

-- A call that takes a batch.

-- a refusal is told as it is, or that memory ended in place of a clash or of the limit
abbrev pub IsRefusedAs : TakeFault → TakeFault → Type 0
IsRefusedAs (take_fault.Bad place why) fault = fault ≡ take_fault.Bad place why
IsRefusedAs refusal fault = (fault ≡ refusal) ⊎ (fault ≡ take_fault.Memory 0)

abbrev pub TakeCases : List Op → Result (List Op) TakeFault → Result ℕ TakeFault → Log → Log → Type 0
TakeCases batch (Ok ops) (Ok count) old new = (count ≡ length ops) × (new ≡ with_taken old ops)
TakeCases batch (Ok ops) (Err (take_fault.Memory n)) old new = (n < length batch) × (new ≡ with_taken old (news (state_of old.ops) (take n batch)))
TakeCases batch (Err refusal) (Err fault) old new = IsRefusedAs refusal fault × (new ≡ old)
TakeCases batch outcome result old new = ⊥

refused_as : (memory : Memory) (refusal fault : TakeFault) → fault ≡ take_refusal_told memory refusal → IsRefusedAs refusal fault
refused_as Enough (take_fault.Bad place why) fault is = is
refused_as Enough (take_fault.Clash id) fault is = inl is
refused_as Enough take_fault.Full fault is = inl is
refused_as Enough (take_fault.Memory n) fault is = inl is
refused_as (EndsAfter count) (take_fault.Bad place why) fault is = is
refused_as (EndsAfter count) (take_fault.Clash id) fault is = inr is
refused_as (EndsAfter count) take_fault.Full fault is = inr is
refused_as (EndsAfter count) (take_fault.Memory n) fault is = inl is

same_count : (m n : ℕ) → (let r : Result ℕ TakeFault = Ok m in r) ≡ Ok n → m ≡ n
same_count m n e = cc

same_fault : (f g : TakeFault) → (let r : Result ℕ TakeFault = Err f in r) ≡ Err g → f ≡ g
same_fault f g e = cc

not_refused : (count : ℕ) (fault : TakeFault) → Ok count ≡ Err fault → ⊥
not_refused count fault e = cc

not_taken : (count : ℕ) (fault : TakeFault) → Err fault ≡ Ok count → ⊥
not_taken count fault e = cc

pub take_cases : (batch : List Op) (outcome : Result (List Op) TakeFault) (result : Result ℕ TakeFault) (old new : Log) → Takes batch outcome result old new → TakeCases batch outcome result old new
take_cases batch (Ok ops) (Ok count) old new is = (same_count count (length ops) is.0, is.1)
take_cases batch (Ok ops) (Err (take_fault.Memory n)) old new is = (is.2, is.1)
take_cases batch (Ok ops) (Err (take_fault.Bad place why)) old new is = not_taken (length ops) (take_fault.Bad place why) is.0
take_cases batch (Ok ops) (Err (take_fault.Clash id)) old new is = not_taken (length ops) (take_fault.Clash id) is.0
take_cases batch (Ok ops) (Err take_fault.Full) old new is = not_taken (length ops) take_fault.Full is.0
take_cases batch (Err refusal) (Ok count) old new is = not_refused count refusal is.0
take_cases batch (Err refusal) (Err fault) old new is = (refused_as (take_fault_memory fault) refusal fault (same_fault fault (take_refusal_told (take_fault_memory fault) refusal) is.0), is.1)
