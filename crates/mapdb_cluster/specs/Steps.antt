-- What one call does to a cluster, with memory as far as its reply tells.
use Rattle.std.specs.Prelude.{◌≡◌, ◌⊎◌, ℕ, ◌<◌, true, List, [], ◌∷◌, ◌++◌, length, take, slice_get}
use Rattle.std.specs.Prelude.{IfSome, Some, Result, Ok, Err, IsOk}
use Rattle.mapdb_facts.specs.declared.operations.Op.{Op}
use Rattle.mapdb_replica.specs.Memory.{EndsAfter, Enough, Memory, ends, issue_fault_memory}
use Rattle.mapdb_replica.specs.Memory.{take_fault_memory}
use Rattle.mapdb_replica.specs.Merging.{Merges}
use Rattle.mapdb_replica.specs.Replica.{Log, first_number}
use Rattle.mapdb_replica.specs.Taking.{HasMore, Takes, take_outcome}
use Rattle.mapdb_replica.specs.Telling.{TellsResult}
use Rattle.mapdb_replica.specs.declared.commands.Applied.{Applied}
use Rattle.mapdb_replica.specs.declared.commands.Applied.TheVariants as applied
use Rattle.mapdb_replica.specs.declared.faults.GiveFault.{GiveFault}
use Rattle.mapdb_replica.specs.declared.faults.GiveFault.TheVariants as give
use Rattle.mapdb_replica.specs.declared.faults.IssueFault.{IssueFault}
use Rattle.mapdb_replica.specs.declared.faults.TakeFault.{TakeFault}
use Rattle.mapdb_cluster.specs.Net.{Done, Net, event_done, taken_reply}
use Rattle.mapdb_cluster.specs.Run.{after, all_done}
use Rattle.mapdb_cluster.specs.declared.events.Event.{Event}
use Rattle.mapdb_cluster.specs.declared.events.Event.TheVariants.{Deliver, Issue, Join, Send}
use Rattle.mapdb_cluster.specs.declared.events.Refusal.{Refusal}
use Rattle.mapdb_cluster.specs.declared.events.Refusal.TheVariants as refusal
use Rattle.mapdb_cluster.specs.declared.events.Reply.{Reply}
use Rattle.mapdb_cluster.specs.declared.events.Reply.TheVariants.{Ended, Issued, Refused, Revoked}
use Rattle.mapdb_cluster.specs.declared.events.Reply.TheVariants.{Sent, Taken}
use Rattle.mapdb_cluster.specs.declared.runs.RunFault.{RunFault}
use Rattle.mapdb_cluster.specs.declared.runs.RunFault.TheVariants as run
use Rattle.mapdb_cluster.specs.declared.sending.SentMessage.{SentMessage}

-- how far memory lasted, as a refusal tells
abbrev pub refusal_memory : Refusal → Memory
refusal_memory refusal.NoProcessor = Enough
refusal_memory refusal.NoMessage = Enough
refusal_memory refusal.Mark = Enough
refusal_memory (refusal.Issue fault) = issue_fault_memory fault
refusal_memory (refusal.Take fault) = take_fault_memory fault
refusal_memory refusal.Memory = EndsAfter 0

-- how far memory lasted, as a reply tells
abbrev pub memory_told : Reply → Memory
memory_told (Issued first count) = Enough
memory_told (Revoked count) = Enough
memory_told Ended = Enough
memory_told (Taken count) = Enough
memory_told (Sent message count) = Enough
memory_told (Refused why) = refusal_memory why

-- so many operations are fewer than the event would have issued or taken, if it does either
abbrev pub IsPartOfEvent : ℕ → Reply → List Op → Type 0
IsPartOfEvent count (Sent message sent) ops = Unit {0}
IsPartOfEvent count (Refused why) ops = Unit {0}
IsPartOfEvent count reply ops = count < length ops

-- where memory ends, it does so before the last operation of what is done with enough of it
abbrev pub LastsForPart : Memory → Done → Type 0
LastsForPart Enough all = Unit {0}
LastsForPart (EndsAfter count) all = IsPartOfEvent count all.reply all.took

-- where a fault tells that memory ended as a processor's copy took a batch, something of it behind
-- what stands is new still to the copy
abbrev pub HasMoreAt : Net → ℕ → List Op → TakeFault → Type 0
HasMoreAt net at batch fault =
    IfSome (slice_get net.copies at) (λ copy. HasMore copy.ops batch fault)

-- .. of the batch that an event gave a copy: a message, or all that another copy held
abbrev pub HasMoreOf : Net → Event → Net → TakeFault → Type 0
HasMoreOf old (Issue at command) new fault = Unit {0}
HasMoreOf old (Send from first end) new fault = Unit {0}
HasMoreOf old (Deliver message to) new fault =
    IfSome (slice_get old.messages message) (λ batch. HasMoreAt new to batch fault)
HasMoreOf old (Join into from) new fault =
    IfSome (slice_get old.copies from) (λ other. HasMoreAt new into other.ops fault)

-- of the reply to a batch that was not taken, or not all of it: what is said of the fault
abbrev pub IfNotTaken : Reply → (TakeFault → Type 0) → Type 0
IfNotTaken (Refused (refusal.Take fault)) Holds = Holds fault
IfNotTaken reply Holds = Unit {0}

-- A step: the reply and the net are those of the event, with memory as far as the reply tells.
-- Where memory ends, that is before the last operation, and before one of a batch that is new then.
pub record Steps (old : Net) (event : Event) (reply : Reply) (new : Net) : Type 0 where
  pub replied : (event_done old event (memory_told reply)).reply ≡ reply
  pub done : (event_done old event (memory_told reply)).net ≡ new
  pub part : LastsForPart (memory_told reply) (event_done old event Enough)
  pub more : IfNotTaken reply (HasMoreOf old event new)

-- What stands after a run that ran out of memory: the first so many events, and the next one not
-- at all or in a part.
pub record StopsIn (old : Net) (events : List Event) (done : ℕ) (new : Net) : Type 0 where
  pub event : Event
  pub next : slice_get events done ≡ Some event
  pub left : (new ≡ after old (all_done (take done events)))
      ⊎ ((reply : Reply) × (ends (memory_told reply) ≡ true)
      × Steps (after old (all_done (take done events))) event reply new)

abbrev pub StopsAt : Net → List Event → Net → RunFault → Type 0
StopsAt old events new (run.Memory done) = StopsIn old events done new

-- the reply to a command that a copy applied
abbrev pub applied_reply : Result Applied IssueFault → Reply
applied_reply (Ok (applied.Mapped names)) = Issued (first_number names.items) (length names.items)
applied_reply (Ok (applied.Revoked count)) = Revoked count
applied_reply (Ok (applied.Ended space)) = Ended
applied_reply (Err fault) = Refused (refusal.Issue fault)

-- What taking a batch at a copy is replied and leaves.
abbrev pub TakesWith : List Op → Log → Reply → Log → Type 0
TakesWith batch old reply new =
    TellsResult taken_reply reply
    (λ result. Takes batch (take_outcome old.ops batch) result old new)

-- What sending at a copy that gives these operations comes to, and leaves of the messages: they are
-- the last message then, or nothing is changed.
abbrev pub Sends : Result (List Op) GiveFault → List (List Op) → Result SentMessage GiveFault
    → List (List Op) → Type 0
Sends given old (Ok sent) new = (ops : List Op) × (given ≡ Ok ops)
    × (sent ≡ record { message = length old; count = length ops })
    × (new ≡ old ++ ops ∷ [])
Sends given old (Err give.BadMark) new = (given ≡ Err give.BadMark) × (new ≡ old)
Sends given old (Err give.Memory) new = IsOk given × (new ≡ old)

-- the reply to a message that was sent, or was not
abbrev pub sent_reply : Result SentMessage GiveFault → Reply
sent_reply (Ok sent) = Sent sent.message sent.count
sent_reply (Err give.BadMark) = Refused refusal.Mark
sent_reply (Err give.Memory) = Refused refusal.Memory

-- What a join within a list of copies is replied and leaves.
abbrev pub Joins : List Log → ℕ → ℕ → Reply → List Log → Type 0
Joins copies into from reply new =
    TellsResult taken_reply reply (λ result. Merges copies into from result new)
