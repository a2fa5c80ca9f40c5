-- What a call that gives operations tells.
use Rattle.std.specs.Prelude.{◌≡◌, ℕ, List, map, Result, Ok, Err}
use Rattle.mapdb_facts.specs.declared.operations.Op.{Op}
use Rattle.mapdb_replica.specs.declared.faults.GiveFault.{GiveFault}
use Rattle.mapdb_replica.specs.declared.faults.GiveFault.TheVariants.{BadMark, Memory}
use Rattle.mapdb_c.specs.Filling.{Fills}
use Rattle.mapdb_c.specs.RawOperations.{written_operation}
use Rattle.mapdb_c.specs.declared.operations.RawOperation.{RawOperation}
use Rattle.mapdb_c.specs.declared.statuses.Status.{Status}
use Rattle.mapdb_c.specs.declared.statuses.Status.TheVariants as status

-- the status of operations that are not given
abbrev pub give_status : GiveFault → Status
give_status BadMark = status.BadMark
give_status Memory = status.Memory

-- what is given goes into the caller's array; of bad marks nothing is given
abbrev pub GivesAs : Result (List Op) GiveFault → Status → List RawOperation → List RawOperation
    → ℕ → ℕ → Type 0
GivesAs (Ok ops) told old new count_old count_new = Fills (map written_operation ops)
    told old new count_old count_new
GivesAs (Err why) told old new count_old count_new =
    (told ≡ give_status why) × (count_new ≡ count_old) × (new ≡ old)
