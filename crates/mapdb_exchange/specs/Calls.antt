-- What workers ask of a node and what it replies, by the calls from their seats.
use Rattle.std.specs.Prelude.{ℕ, ◌≡◌, ◌⊎◌, ◌+◌, ◌^◌, nat_lt, if◌then◌else◌, List, [], ◌∷◌, ◌++◌}
use Rattle.std.specs.Prelude.{Some, Result, Ok, Err}
use Rattle.mapdb_facts.specs.declared.operations.Op.{Op}
use Rattle.mapdb_replica.specs.declared.commands.Command.{Command}
use Rattle.mapdb_replica.specs.declared.faults.IssueFault.{IssueFault}
use Rattle.mapdb_replica.specs.declared.faults.IssueFault.TheVariants as issue
use Rattle.mapdb_replica.specs.declared.faults.TakeFault.{TakeFault}
use Rattle.mapdb_replica.specs.declared.faults.TakeFault.TheVariants as take
use Rattle.mapdb_node.specs.declared.events.NodeEvent.{NodeEvent}
use Rattle.mapdb_node.specs.declared.events.NodeEvent.TheVariants.{Issue, OwnAt, Served, Take}
use Rattle.mapdb_node.specs.declared.events.NodeReply.{NodeReply}
use Rattle.mapdb_node.specs.declared.events.NodeReply.TheVariants as reply
use Rattle.mapdb_node.specs.declared.seats.Call.{Call}
use Rattle.mapdb_node.specs.declared.sharing.CallFault.{CallFault}
use Rattle.mapdb_node.specs.declared.sharing.CallFault.TheVariants as call
use Rattle.mapdb_exchange.specs.declared.faults.NodeFault.TheVariants.{JournalFull, Own, Refused}
use Rattle.mapdb_exchange.specs.declared.faults.WorkFault.{WorkFault}
use Rattle.mapdb_exchange.specs.declared.faults.WorkFault.TheVariants.{Gate, Link, Memory, Node}
use Rattle.mapdb_exchange.specs.declared.messages.Message.{Message}
use Rattle.mapdb_exchange.specs.declared.messages.Message.TheVariants.{Batch, Fin}

-- the worker's fault where a call was not done
abbrev pub called_fault : CallFault → WorkFault
called_fault call.JournalFull = Node JournalFull
called_fault call.Memory = Memory
called_fault call.Gate = Gate

-- how many operations a refused command issued
abbrev pub refused_issue : IssueFault → Result ℕ WorkFault
refused_issue (issue.Memory count) = Err Memory
refused_issue why = Ok 0

-- how many operations a command issued, by its reply; no other reply follows a command
abbrev pub issued_in : NodeReply → Result ℕ WorkFault
issued_in (reply.Issued first count) = Ok count
issued_in (reply.Revoked count) = Ok count
issued_in reply.Ended = Ok 1
issued_in (reply.IssueRefused why) = refused_issue why
issued_in answer = Err Link

-- the own operation that a reply tells
abbrev pub own_in : NodeReply → Result Op WorkFault
own_in (reply.Own (Some op)) = Ok op
own_in answer = Err (Node Own)

-- the place so many places on, of an own operation
abbrev pub place_after : ℕ → ℕ → Result ℕ WorkFault
place_after first count = if nat_lt (first + count) (2 ^ 32) then Ok (first + count)
    else Err (Node Own)

-- a fault of a worker that reads own operations: there was none at a place, or a call was not done
abbrev pub IsReadingFault : WorkFault → Type 0
IsReadingFault fault = (fault ≡ Node Own) ⊎ ((why : CallFault) × (fault ≡ called_fault why))

-- a fault of a worker that issues: an own operation was not read, or the reply to a command tells
-- it
abbrev pub IsIssuingFault : WorkFault → Type 0
IsIssuingFault fault = IsReadingFault fault
    ⊎ ((answer : NodeReply) × (issued_in answer ≡ Err fault))

-- the worker's fault where an operation was refused
abbrev pub refused_take : TakeFault → WorkFault
refused_take (take.Memory count) = Memory
refused_take why = Node (Refused why)

-- whether an operation is held, by the reply to a Take; no other reply follows it
abbrev pub taken_in : NodeReply → Result (Unit {0}) WorkFault
taken_in (reply.Taken new) = Ok tt
taken_in (reply.TakeRefused why) = Err (refused_take why)
taken_in answer = Err Link

-- a fault of a worker that takes operations: a call was not done, or the reply to a Take tells it
abbrev pub IsTakingFault : WorkFault → Type 0
IsTakingFault fault = ((why : CallFault) × (fault ≡ called_fault why))
    ⊎ ((answer : NodeReply) × (taken_in answer ≡ Err fault))

-- the operation of a Take, if it is held, before others
abbrev pub with_held : NodeEvent → NodeReply → List Op → List Op
with_held (Take op) (reply.Taken new) rest = op ∷ rest
with_held event answer rest = rest

-- the operations that were taken and are held, in order
abbrev pub held_in : List Call → List Op
held_in [] = []
held_in (c ∷ cs) = with_held c.event c.reply (held_in cs)

-- the command of an event, if it is one, before others
abbrev pub with_event_command : NodeEvent → List Command → List Command
with_event_command (Issue command) rest = command ∷ rest
with_event_command event rest = rest

-- the commands among calls, in order
abbrev pub commands_in : List Call → List Command
commands_in [] = []
commands_in (c ∷ cs) = with_event_command c.event (commands_in cs)

-- the operations of a message, before others
abbrev pub with_ops : Message → List Op → List Op
with_ops (Batch batch) rest = batch.ops ++ rest
with_ops Fin rest = rest

-- the operations that messages carry, in order
abbrev pub ops_in : List Message → List Op
ops_in [] = []
ops_in (m ∷ ms) = with_ops m (ops_in ms)

-- the fault of an answer, if it is one, before others
abbrev pub with_error : {A : Type 0} → Result A WorkFault → List WorkFault → List WorkFault
with_error (Ok value) rest = rest
with_error (Err fault) rest = fault ∷ rest

-- the fault that the reply to an event tells a worker, if it does, before others
abbrev pub with_fault : NodeEvent → NodeReply → List WorkFault → List WorkFault
with_fault (Take op) answer rest = with_error (taken_in answer) rest
with_fault (Issue command) answer rest = with_error (issued_in answer) rest
with_fault (OwnAt place) answer rest = with_error (own_in answer) rest
with_fault (Served space page) answer rest = rest

-- the faults that replies told, in order
abbrev pub faults_in : List Call → List WorkFault
faults_in [] = []
faults_in (c ∷ cs) = with_fault c.event c.reply (faults_in cs)

-- The fault is the one that a reply told, and no other reply told any; or none told any since, and
-- it is one that no reply tells.
abbrev pub IsToldSince : (WorkFault → Type 0) → List Call → List Call → WorkFault → Type 0
IsToldSince untold old new fault = (faults_in new ≡ faults_in old ++ fault ∷ [])
    ⊎ ((faults_in new ≡ faults_in old) × untold fault)

-- a call was not done, but for a gate
abbrev pub IsCallFault : WorkFault → Type 0
IsCallFault fault = (fault ≡ Memory) ⊎ (fault ≡ Node JournalFull)

-- so, or a link failed
abbrev pub IsReceivingFault : WorkFault → Type 0
IsReceivingFault fault = (fault ≡ Link) ⊎ IsCallFault fault

-- so, or there is no own operation at a place
abbrev pub IsSendingFault : WorkFault → Type 0
IsSendingFault fault = (fault ≡ Node Own) ⊎ IsReceivingFault fault
