-- What a fresh copy holds after it took what a text says.
use Rattle.std.proofs.Common.{◌≡◌, ℕ, List, ◌++◌, inl, inr, refl, sym, ap, ◌∙◌}
use Rattle.std.specs.Prelude.{◌⊎◌, Result, Ok, Err, IfErr}
use Rattle.std.specs.Result.{IsErrAnd}
use Rattle.mapdb_facts.specs.declared.operations.Op.{Op}
use Rattle.mapdb_replica.specs.Replica.{Log, empty}
use Rattle.mapdb_replica.specs.Taking.{Takes, take_outcome}
use Rattle.mapdb_replica.specs.declared.faults.TakeFault.{TakeFault}
use Rattle.mapdb_replica.specs.declared.faults.TakeFault.TheVariants as take
use Rattle.mapdb_replica.proofs.Calls.CallCases.{IsRefusedAs, TakeCases, take_cases}
use Rattle.mapdb_snapshot.specs.Reading.{snapshot_of}
use Rattle.mapdb_picture.specs.Loading.{loaded_of, of_take_fault, or_take_fault, taken_of}
use Rattle.mapdb_picture.specs.declared.faults.LoadFault.{LoadFault}
use Rattle.mapdb_picture.specs.declared.faults.LoadFault.TheVariants.{Memory}

-- what was read, taken by a copy that holds nothing
loaded_is : (bytes : List ℕ) (items batch : List Op) (old : Log) → snapshot_of bytes ≡ Ok items → batch ≡ items → old ≡ empty 0
    → loaded_of bytes ≡ or_take_fault (take_outcome old.ops batch)
loaded_is bytes items batch old read same fresh =
    ap taken_of read ∙ (λ i. or_take_fault (take_outcome (sym (ap (λ (log : Log). log.ops) fresh) i) (sym same i)))

held : (batch : List Op) (outcome : Result (List Op) TakeFault) (count : ℕ) (old new : Log) → old ≡ empty 0
    → Takes batch outcome (Ok count) old new → or_take_fault outcome ≡ Ok new.ops
held batch (Ok ops) count old new fresh takes =
    ap (λ (xs : List Op). Ok xs) (sym (ap (λ (log : Log). log.ops) takes.1 ∙ ap (λ (log : Log). log.ops ++ ops) fresh))
held batch (Err fault) count old new fresh takes = absurd (take_cases batch (Err fault) (Ok count) old new takes)

pub copy_held : (bytes : List ℕ) (items batch : List Op) (count : ℕ) (old new : Log) → snapshot_of bytes ≡ Ok items → batch ≡ items
    → old ≡ empty 0 → Takes batch (take_outcome old.ops batch) (Ok count) old new → loaded_of bytes ≡ Ok new.ops
copy_held bytes items batch count old new read same fresh takes =
    loaded_is bytes items batch old read same fresh ∙ held batch (take_outcome old.ops batch) count old new fresh takes

-- a refusal is told as it is, or memory ran out
told_as : (refusal fault : TakeFault) → IsRefusedAs refusal fault
    → (of_take_fault fault ≡ Memory) ⊎ (or_take_fault (Err refusal) ≡ Err (of_take_fault fault))
told_as (take.Bad place why) fault is = inr (sym (ap (λ (f : TakeFault). Err (of_take_fault f)) is))
told_as (take.Clash id) fault is = elim is [
  | inl e ↦ inr (sym (ap (λ (f : TakeFault). Err (of_take_fault f)) e))
  | inr e ↦ inl (ap of_take_fault e)
]
told_as take.Full fault is = elim is [
  | inl e ↦ inr (sym (ap (λ (f : TakeFault). Err (of_take_fault f)) e))
  | inr e ↦ inl (ap of_take_fault e)
]
told_as (take.Memory n) fault is = elim is [
  | inl e ↦ inr (sym (ap (λ (f : TakeFault). Err (of_take_fault f)) e))
  | inr e ↦ inl (ap of_take_fault e)
]

refused : (batch : List Op) (outcome : Result (List Op) TakeFault) (fault : TakeFault) (old new : Log) → TakeCases batch outcome (Err fault) old new
    → (of_take_fault fault ≡ Memory) ⊎ (or_take_fault outcome ≡ Err (of_take_fault fault))
refused batch (Ok ops) (take.Memory n) old new takes = inl refl
refused batch (Ok ops) (take.Bad place why) old new takes = absurd takes
refused batch (Ok ops) (take.Clash id) old new takes = absurd takes
refused batch (Ok ops) take.Full old new takes = absurd takes
refused batch (Err refusal) fault old new takes = told_as refusal fault takes.0

pub copy_refused : (bytes : List ℕ) (items batch : List Op) (fault : TakeFault) (told : LoadFault) (old new : Log) → snapshot_of bytes ≡ Ok items
    → batch ≡ items → old ≡ empty 0 → Takes batch (take_outcome old.ops batch) (Err fault) old new → told ≡ of_take_fault fault
    → (told ≡ Memory) ⊎ (loaded_of bytes ≡ Err told)
copy_refused bytes items batch fault told old new read same fresh takes is =
    elim (refused batch (take_outcome old.ops batch) fault old new (take_cases batch (take_outcome old.ops batch) (Err fault) old new takes)) [
      | inl e ↦ inl (is ∙ e)
      | inr e ↦ inr (loaded_is bytes items batch old read same fresh ∙ e ∙ ap (λ (f : LoadFault). Err f) (sym is))
    ]

-- running out of memory is told as it is
pub memory_told : {T : Type 0} (P : LoadFault → Type 0) (result : Result T LoadFault) → IsErrAnd result (λ (fault : LoadFault). fault ≡ Memory) → IfErr result (λ (fault : LoadFault). (fault ≡ Memory) ⊎ P fault)
memory_told P (Ok x) told = absurd told
memory_told P (Err fault) told = inl told
