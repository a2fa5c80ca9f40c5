-- How workers end.
use Rattle.std.specs.Prelude.{◌≡◌, ◌⊎◌, List, [], ◌∷◌, ◌++◌, None, Option, Some}
use Rattle.mapdb_node.specs.Seated.{Seated}
use Rattle.mapdb_exchange.specs.Calls.{IsIssuingFault, IsReceivingFault, IsSendingFault}
use Rattle.mapdb_exchange.specs.Calls.{IsTakingFault, IsToldSince, commands_in, faults_in, held_in}
use Rattle.mapdb_exchange.specs.Calls.{ops_in}
use Rattle.mapdb_exchange.specs.Faults.{listed}
use Rattle.mapdb_exchange.specs.Links.{AreNumbered}
use Rattle.mapdb_exchange.specs.declared.faults.WorkFault.{WorkFault}
use Rattle.mapdb_exchange.specs.declared.faults.WorkFault.TheVariants.{Gate, Link}
use Rattle.mapdb_exchange.specs.declared.messages.Message.{Message}
use Rattle.mapdb_exchange.specs.declared.workers.Ended.{Ended}
use Rattle.mapdb_exchange.specs.declared.workers.Job.{Job}
use Rattle.mapdb_exchange.specs.declared.workers.Job.TheVariants.{Issue, Receive}

-- What stands at the end at the seat of a worker that met no fault: an issuing one called the
-- commands of its script, in order; a receiving one received the batches of its link, numbered from
-- 0 on, and Fin, and took what they carry, in order, all of which is held.
abbrev pub HasWorked : Job → Seated → Type 0
HasWorked (Issue issuing) seat = commands_in seat.calls
    ≡ commands_in issuing.seat.calls ++ issuing.script.now
HasWorked (Receive receiving) seat =
    (received : List Message) × AreNumbered receiving.link.from receiving.link.to 0 received
    × (held_in seat.calls ≡ held_in receiving.seat.calls ++ ops_in received)

-- the faults that a worker may tell
abbrev pub MayTell : Job → WorkFault → Type 0
MayTell (Issue issuing) fault = (fault ≡ Link) ⊎ IsIssuingFault fault
MayTell (Receive receiving) fault = (fault ≡ Link) ⊎ IsTakingFault fault

-- A worker that met no fault was told none by its node. One that ended early tells the fault that
-- its node told it, if it did; an issuing one may tell the gate's.
abbrev pub TellsItsNode : Job → Seated → Option WorkFault → Type 0
TellsItsNode (Issue issuing) seat None = faults_in seat.calls ≡ faults_in issuing.seat.calls
TellsItsNode (Issue issuing) seat (Some fault) = (fault ≡ Gate)
    ⊎ IsToldSince IsSendingFault issuing.seat.calls seat.calls fault
TellsItsNode (Receive receiving) seat None = faults_in seat.calls ≡ faults_in receiving.seat.calls
TellsItsNode (Receive receiving) seat (Some fault) =
    IsToldSince IsReceivingFault receiving.seat.calls seat.calls fault

-- the faults for which workers ended early, in the workers' order
abbrev pub faults_of : List Ended → List WorkFault
faults_of [] = []
faults_of (e ∷ es) = listed e.fault ++ faults_of es
