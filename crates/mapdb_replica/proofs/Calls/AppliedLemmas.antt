-- A Map answers no more names than a copy holds operations.
use Rattle.std.proofs.Common.{List, [], ◌∷◌, length, length-append, ap, arith}
use Rattle.std.specs.Prelude.{◌≤◌, IfOk, Result, Ok, Err}
use Rattle.mapdb_facts.specs.declared.operations.Op.{Op}
use Rattle.mapdb_facts.specs.declared.operations.Op.TheVariants.{Born, Closed, Cut}
use Rattle.mapdb_replica.specs.Commands.{Applies, AreFew}
use Rattle.mapdb_replica.specs.Replica.{Log, most_operations, record_names}
use Rattle.mapdb_replica.specs.declared.commands.Applied.{Applied}
use Rattle.mapdb_replica.specs.declared.commands.Applied.TheVariants.{Ended, Mapped, Revoked}
use Rattle.mapdb_replica.specs.declared.commands.Command.{Command}
use Rattle.mapdb_replica.specs.declared.commands.Command.TheVariants.{End, Map, Unmap}
use Rattle.mapdb_replica.specs.declared.faults.IssueFault.{IssueFault}
use Rattle.mapdb_replica.proofs.Calls.CallCases.{issue_cases}

-- there are not more names than operations
names_few : (ops : List Op) → length (record_names ops) ≤ length ops
names_few [] = omega arith
names_few (Born r ∷ ops) = omega (arith, names_few ops)
names_few (Cut cut ∷ ops) = omega (arith, names_few ops)
names_few (Closed space ∷ ops) = omega (arith, names_few ops)

pub applied_few : (command : Command) (o : Result (List Op) IssueFault) (result : Result Applied IssueFault) (old new : Log)
    → Applies command o result old new → length new.ops ≤ most_operations → IfOk result AreFew
applied_few command o (Err fault) old new is few = tt
applied_few command (Err refusal) (Ok applied) old new is few = absurd (issue_cases (Err refusal) (Ok applied) old new is.1)
applied_few command (Ok ops) (Ok (Revoked count)) old new is few = tt
applied_few command (Ok ops) (Ok (Ended space)) old new is few = tt
applied_few (Map sender item receiver window) (Ok ops) (Ok (Mapped names)) old new is few =
    omega (arith, ap length is.0, names_few ops, ap (λ (l : Log). length l.ops) is.1.1, length-append old.ops ops, few)
applied_few (Unmap space page rights flush) (Ok ops) (Ok (Mapped names)) old new is few = absurd is.0
applied_few (End space) (Ok ops) (Ok (Mapped names)) old new is few = absurd is.0
