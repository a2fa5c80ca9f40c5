-- What a command tells is what it leaves.
use Rattle.std.proofs.Common.{refl}
use Rattle.std.specs.Prelude.{Ok, Err}
use Rattle.mapdb_replica.specs.Commands.{Applies, command_outcome}
use Rattle.mapdb_replica.specs.Replica.{Log}
use Rattle.mapdb_replica.specs.declared.commands.Applied.{Applied}
use Rattle.mapdb_replica.specs.declared.commands.Command.{Command}
use Rattle.mapdb_replica.specs.declared.faults.IssueFault.{IssueFault}
use Rattle.mapdb_c.specs.FaultStatuses.{issue_status}
use Rattle.mapdb_c.specs.Issuing.{IssuesAs, applied_told, issue_fault_told}
use Rattle.mapdb_c.specs.declared.statuses.Status.TheVariants as status

pub all_done :
    (command : Command) (applied : Applied) (old new : Log)
    → Applies command (command_outcome old command) (Ok applied) old new
    → IssuesAs command status.Done (applied_told applied) old new
all_done command applied old new is =
    record { result = Ok applied; applies = is; tells = refl; counts = refl }

pub not_done :
    (command : Command) (fault : IssueFault) (old new : Log)
    → Applies command (command_outcome old command) (Err fault) old new
    → IssuesAs command (issue_status fault) (issue_fault_told fault) old new
not_done command fault old new is =
    record { result = Err fault; applies = is; tells = refl; counts = refl }
