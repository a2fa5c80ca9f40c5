-- What a batch of C's says: each operation, up to the first that is none.
use Rattle.std.specs.Prelude.{ℕ, ◌<◌, ◌+◌, List, [], ◌∷◌, ◌++◌, Result, Ok, Err}
use Rattle.mapdb_facts.specs.declared.operations.Op.{Op}
use Rattle.mapdb_c.specs.RawOperations.{operation_of}
use Rattle.mapdb_c.specs.declared.operations.RawOperation.{RawOperation}
use Rattle.mapdb_c.specs.declared.reading.Unread.{Unread}
use Rattle.mapdb_c.specs.declared.reading.Unread.TheVariants.{Bad, Memory}
use Rattle.mapdb_c.specs.declared.statuses.Status.{Status}
use Rattle.mapdb_c.specs.declared.statuses.Status.TheVariants as status

-- the status of a batch that is not read
abbrev pub unread_status : Unread → Status
unread_status (Bad why place) = why
unread_status Memory = status.Memory

abbrev pub at_place : ℕ → Result Op Status → Result Op Unread
at_place place (Ok op) = Ok op
at_place place (Err why) = Err (Bad why place)

-- the operation at a place of the batch
abbrev pub operation_at : ℕ → RawOperation → Result Op Unread
operation_at place raw = at_place place (operation_of raw)

-- one operation, and then the others
abbrev pub read_before : Result Op Unread → Result (List Op) Unread → Result (List Op) Unread
read_before (Err unread) others = Err unread
read_before (Ok op) (Err unread) = Err unread
read_before (Ok op) (Ok ops) = Ok (op ∷ ops)

-- the operations of a batch from this place on
abbrev pub operations_from : ℕ → List RawOperation → Result (List Op) Unread
operations_from place [] = Ok []
operations_from place (raw ∷ rest) =
    read_before (operation_at place raw) (operations_from (place + 1) rest)

-- an operation is read, so that there is something to keep
abbrev pub KeepsSome : Result (List Op) Unread → Type 0
KeepsSome (Ok []) = ⊥
KeepsSome (Ok (op ∷ ops)) = Unit {0}
KeepsSome (Err (Bad why place)) = 0 < place
KeepsSome (Err Memory) = ⊥

-- the others, behind those that were read
abbrev pub read_behind : List Op → Result (List Op) Unread → Result (List Op) Unread
read_behind ops (Ok others) = Ok (ops ++ others)
read_behind ops (Err unread) = Err unread
