-- A cluster of copies with the messages between them, and what one event does.
use Rattle.std.specs.Prelude.{ℕ, ◌++◌, ◌==◌, List, [], ◌∷◌, length, map, slice_get, slice_set}
use Rattle.std.specs.Prelude.{Option, Some, None, Result, Ok, Err, if◌then◌else◌}
use Rattle.std.specs.List.{range_with_len}
use Rattle.mapdb_facts.specs.declared.operations.Op.{Op}
use Rattle.mapdb_replica.specs.Commands.{command_outcome}
use Rattle.mapdb_replica.specs.Giving.{given}
use Rattle.mapdb_replica.specs.Memory.{EndsAfter, Enough, Memory, lasting}
use Rattle.mapdb_replica.specs.Replica.{Log, empty, first_number, record_names, with_issued}
use Rattle.mapdb_replica.specs.Taking.{take_refusal_told, take_answer, take_left, take_outcome}
use Rattle.mapdb_replica.specs.declared.commands.Command.{Command}
use Rattle.mapdb_replica.specs.declared.commands.Command.TheVariants.{End, Map, Unmap}
use Rattle.mapdb_replica.specs.declared.faults.GiveFault.{GiveFault}
use Rattle.mapdb_replica.specs.declared.faults.IssueFault.{IssueFault}
use Rattle.mapdb_replica.specs.declared.faults.IssueFault.TheVariants as issue
use Rattle.mapdb_replica.specs.declared.faults.TakeFault.{TakeFault}
use Rattle.mapdb_cluster.specs.declared.events.Event.{Event}
use Rattle.mapdb_cluster.specs.declared.events.Event.TheVariants.{Deliver, Issue, Join, Send}
use Rattle.mapdb_cluster.specs.declared.events.Refusal.{Refusal}
use Rattle.mapdb_cluster.specs.declared.events.Refusal.TheVariants as refusal
use Rattle.mapdb_cluster.specs.declared.events.Reply.{Reply}
use Rattle.mapdb_cluster.specs.declared.events.Reply.TheVariants.{Ended, Issued, Refused, Revoked}
use Rattle.mapdb_cluster.specs.declared.events.Reply.TheVariants.{Sent, Taken}

-- the copies, one for each processor, and the messages that were sent, which are kept for good
pub record Net : Type 0 where
  pub copies : List Log
  pub messages : List (List Op)

-- so many copies that hold nothing
abbrev pub new_net : ℕ → Net
new_net count = record { copies = map empty (range_with_len 0 count); messages = [] }

abbrev pub with_copy : Net → ℕ → Log → Net
with_copy net at copy = record { copies = slice_set net.copies at copy; messages = net.messages }

abbrev pub with_message : Net → List Op → Net
with_message net ops = record { copies = net.copies; messages = net.messages ++ ops ∷ [] }

-- What an event does: its reply, the net after it, and the operations that one copy took, whether
-- they were new or not.
pub record Done : Type 0 where
  pub reply : Reply
  pub net : Net
  pub taker : ℕ
  pub took : List Op

-- nothing is changed
abbrev pub refused : Net → Refusal → Done
refused net why = record { reply = Refused why; net = net; taker = 0; took = [] }

-- the reply to a command that issued these
abbrev pub issue_reply : Command → List Op → Reply
issue_reply (Map sender item receiver window) ops =
    Issued (first_number (record_names ops)) (length (record_names ops))
issue_reply (Unmap space page rights flush) ops = Revoked (length ops)
issue_reply (End space) ops = Ended

-- The reply to a command: of all that it issued, or that memory ended behind so many. How far
-- memory lasts is the one thing that the event and the net leave open.
abbrev pub issued_reply : Memory → Command → List Op → Reply
issued_reply Enough command ops = issue_reply command ops
issued_reply (EndsAfter count) command ops = Refused (refusal.Issue (issue.Memory count))

-- what a command comes to: all that memory lasts for is issued
abbrev pub issue_done : Net → ℕ → Log → Command → Memory → Result (List Op) IssueFault → Done
issue_done net at copy command memory (Err fault) = refused net (refusal.Issue fault)
issue_done net at copy command memory (Ok ops) = record {
  reply = issued_reply memory command ops;
  net = with_copy net at (with_issued copy (lasting memory ops));
  taker = at;
  took = lasting memory ops;
}

-- the reply to a batch that a copy took, or did not take
abbrev pub taken_reply : Result ℕ TakeFault → Reply
taken_reply (Ok count) = Taken count
taken_reply (Err fault) = Refused (refusal.Take fault)

-- a refused batch changes nothing
abbrev pub take_refused : Net → Memory → TakeFault → Done
take_refused net memory fault = refused net (refusal.Take (take_refusal_told memory fault))

-- what taking a batch comes to: all that is new stands, or what is new of that for which memory
-- lasts
abbrev pub take_done : Net → ℕ → Log → List Op → Memory → Result (List Op) TakeFault → Done
take_done net at copy batch memory (Err fault) = take_refused net memory fault
take_done net at copy batch memory (Ok ops) = record {
  reply = taken_reply (take_answer memory (Ok ops));
  net = with_copy net at (take_left memory batch (Ok ops) copy);
  taker = at;
  took = lasting memory batch;
}

-- what sending comes to: the message is kept
abbrev pub send_done : Net → Memory → Result (List Op) GiveFault → Done
send_done net memory (Err fault) = refused net refusal.Mark
send_done net Enough (Ok ops) =
    record {
      reply = Sent (length net.messages) (length ops);
      net = with_message net ops;
      taker = 0;
      took = [];
    }
send_done net (EndsAfter count) (Ok ops) = refused net refusal.Memory

-- what is done at a processor's copy
abbrev pub at_copy : Net → Option Log → (Log → Done) → Done
at_copy net None done = refused net refusal.NoProcessor
at_copy net (Some copy) done = done copy

abbrev pub at_processor : Net → ℕ → (Log → Done) → Done
at_processor net at done = at_copy net (slice_get net.copies at) done

-- a copy takes a batch
abbrev pub taken_at : Net → Memory → ℕ → List Op → Log → Done
taken_at net memory at batch copy = take_done net at copy batch memory (take_outcome copy.ops batch)

-- a copy takes a message, if it was sent
abbrev pub delivered : Net → Memory → ℕ → Option (List Op) → Log → Done
delivered net memory to None copy = refused net refusal.NoMessage
delivered net memory to (Some batch) copy = taken_at net memory to batch copy

-- a copy takes another one's operations; its own are not new
abbrev pub joined : Net → Memory → ℕ → ℕ → Log → Log → Done
joined net memory into from copy other =
    if into == from then record { reply = Taken 0; net = net; taker = into; took = copy.ops }
    else taken_at net memory into other.ops copy

-- what an event does, where memory lasts so far
abbrev pub event_done : Net → Event → Memory → Done
event_done net (Issue at command) memory =
    at_processor net at (λ copy. issue_done net at copy command memory
    (command_outcome copy command))
event_done net (Send from first end) memory =
    at_processor net from (λ copy. send_done net memory (given copy.ops first end))
event_done net (Deliver message to) memory =
    at_processor net to (λ copy. delivered net memory to (slice_get net.messages message) copy)
event_done net (Join into from) memory =
    at_processor net into (λ copy. at_processor net from
    (λ other. joined net memory into from copy other))
