-- Where memory may run out for a batch of C's, an operation of it was read.
use Rattle.std.proofs.Common.{◌≡◌, ◌≤◌, ◌<◌, ◌+◌, ℕ, List, [], ◌∷◌, ◌++◌, refl, sym, subst, arith}
use Rattle.std.specs.Prelude.{Result, Ok, Err}
use Rattle.mapdb_facts.specs.declared.operations.Op.{Op}
use Rattle.mapdb_c.specs.RawOperations.{operation_of}
use Rattle.mapdb_c.specs.Reading.{KeepsSome, at_place, operation_at, operations_from, read_before, read_behind}
use Rattle.mapdb_c.specs.declared.operations.RawOperation.{RawOperation}
use Rattle.mapdb_c.specs.declared.reading.Unread.{Unread}
use Rattle.mapdb_c.specs.declared.reading.Unread.TheVariants.{Bad, Memory}
use Rattle.mapdb_c.specs.declared.statuses.Status.{Status}

-- what is none stands at a place from this one on
abbrev IsFrom : ℕ → Result (List Op) Unread → Type 0
IsFrom n (Ok ops) = Unit {0}
IsFrom n (Err (Bad why place)) = n ≤ place
IsFrom n (Err Memory) = ⊥

from_next : (n : ℕ) (first : Result Op Status) (others : Result (List Op) Unread) → IsFrom (n + 1) others → IsFrom n (read_before (at_place n first) others)
from_next n (Err why) others behind = omega arith
from_next n (Ok op) (Ok ops) behind = tt
from_next n (Ok op) (Err (Bad why place)) behind = omega arith
from_next n (Ok op) (Err Memory) behind = behind

none_before : (n : ℕ) (raws : List RawOperation) → IsFrom n (operations_from n raws)
none_before n [] = tt
none_before n (raw ∷ raws) = from_next n (operation_of raw) (operations_from (n + 1) raws) (none_before (n + 1) raws)

keeps_by : (n : ℕ) (ops : List Op) (op : Op) (others : Result (List Op) Unread) → IsFrom (n + 1) others → KeepsSome (read_behind ops (read_before (Ok op) others))
keeps_by n [] op (Ok others) behind = tt
keeps_by n (first ∷ ops) op (Ok others) behind = tt
keeps_by n ops op (Err (Bad why place)) behind = omega arith
keeps_by n ops op (Err Memory) behind = behind

-- an operation was read at this place, behind others
pub keeps_some : (n : ℕ) (ops : List Op) (op : Op) (raw : RawOperation) (raws all : List RawOperation) → operation_at n raw ≡ Ok op
    → read_behind ops (operations_from n (raw ∷ raws)) ≡ operations_from 0 all → KeepsSome (operations_from 0 all)
keeps_some n ops op raw raws all is so_far =
    subst KeepsSome so_far (subst (λ (first : Result Op Unread). KeepsSome (read_behind ops (read_before first (operations_from (n + 1) raws)))) (sym is)
    (keeps_by n ops op (operations_from (n + 1) raws) (none_before (n + 1) raws)))
