-- What a call that commands leaves and tells.
use Rattle.std.specs.Prelude.{◌≡◌, ℕ, length, Option, Some, None, Result, Ok}
use Rattle.std.specs.Prelude.{Err}
use Rattle.mapdb_replica.specs.Commands.{Applies, command_outcome}
use Rattle.mapdb_replica.specs.Replica.{Log, first_number}
use Rattle.mapdb_replica.specs.declared.commands.Applied.{Applied}
use Rattle.mapdb_replica.specs.declared.commands.Applied.TheVariants as applied
use Rattle.mapdb_replica.specs.declared.commands.Command.{Command}
use Rattle.mapdb_replica.specs.declared.faults.IssueFault.{IssueFault}
use Rattle.mapdb_replica.specs.declared.faults.IssueFault.TheVariants.{Full, Memory, NumbersSpent}
use Rattle.mapdb_replica.specs.declared.faults.IssueFault.TheVariants.{RootSpace, SpaceEnded}
use Rattle.mapdb_c.specs.FaultStatuses.{issue_status}
use Rattle.mapdb_c.specs.RawPlaces.{raw_space}
use Rattle.mapdb_c.specs.StatusNumbers.{Tells, status_number}
use Rattle.mapdb_c.specs.declared.issuing.Issued.{Issued}
use Rattle.mapdb_c.specs.declared.statuses.Status.{Status}
use Rattle.mapdb_c.specs.declared.statuses.Status.TheVariants as status

-- the first record's number, and how many operations were issued
abbrev pub issued_with : ℕ → ℕ → Issued
issued_with first count = record {
  first = first;
  count = count;
  space = record {
    number = 0;
    version = 0;
  };
}

-- what is told of a refusal: the space that has ended, or how many operations stand
abbrev pub issue_fault_told : IssueFault → Issued
issue_fault_told (SpaceEnded space) = record { first = 0; count = 0; space = raw_space space }
issue_fault_told RootSpace = issued_with 0 0
issue_fault_told NumbersSpent = issued_with 0 0
issue_fault_told Full = issued_with 0 0
issue_fault_told (Memory issued) = issued_with 0 issued

-- What is told of a command that is done: of a Map the first record's number and how many there
-- are, and else how many operations were issued.
abbrev pub applied_told : Applied → Issued
applied_told (applied.Mapped names) = issued_with (first_number names.items) (length names.items)
applied_told (applied.Revoked count) = issued_with 0 count
applied_told (applied.Ended space) = issued_with 0 1

-- a command's result is told by a status
abbrev pub command_status : Result Applied IssueFault → Status
command_status (Ok applied) = status.Done
command_status (Err fault) = issue_status fault

-- .. and by what was issued
abbrev pub command_told : Result Applied IssueFault → Issued
command_told (Ok applied) = applied_told applied
command_told (Err fault) = issue_fault_told fault

-- What a command at a copy leaves and tells: the copy applies it, and C is told the result.
pub record IssuesAs (command : Command) (told : Status) (issued : Issued) (old new : Log) : Type 0
  where
    pub result : Result Applied IssueFault
    pub applies : Applies command (command_outcome old command) result old new
    pub tells : told ≡ command_status result
    pub counts : issued ≡ command_told result

-- What a call does by what C gives as a command, at a handle that has a copy or none. What is no
-- command is told, and then that there is no copy; either leaves all as it was.
unfoldable pub IssuesFor : Result Command Status → Option Log → ℕ → Issued → Issued → Option Log
    → Type 0
IssuesFor command old told issued_old issued new =
    ((why : Status) → command ≡ Err why → (told ≡ status_number why) × (issued ≡ issued_old)
    × (new ≡ old))
    × ((given : Command) → command ≡ Ok given → old ≡ None
    → (told ≡ status_number status.NoCopy) × (issued ≡ issued_old) × (new ≡ None))
    × ((given : Command) (log after : Log) → command ≡ Ok given → old ≡ Some log → new ≡ Some after
    → Tells told (λ answer. IssuesAs given answer issued log after))
    × (new ≡ None → old ≡ None)
