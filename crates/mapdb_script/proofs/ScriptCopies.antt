-- Moves make no copies and drop none.
use Rattle.std.proofs.Common.{◌≡◌, ◌∙◌, ℕ, Bool, true, false, Err, Ok, Result, Some, refl, List, [], ◌∷◌, length}
use Rattle.std.specs.Prelude.{◌==◌, None, Option, if◌then◌else◌, slice_get}
use Rattle.std.proofs.Math.ListN.{length-set}
use Rattle.mapdb_facts.specs.declared.operations.Op.{Op}
use Rattle.mapdb_replica.specs.Commands.{command_outcome}
use Rattle.mapdb_replica.specs.Giving.{given}
use Rattle.mapdb_replica.specs.Memory.{EndsAfter, Enough, Memory, lasting}
use Rattle.mapdb_replica.specs.Replica.{Log, with_issued}
use Rattle.mapdb_replica.specs.Taking.{take_left, take_outcome}
use Rattle.mapdb_replica.specs.declared.commands.Command.{Command}
use Rattle.mapdb_replica.specs.declared.faults.GiveFault.{GiveFault}
use Rattle.mapdb_replica.specs.declared.faults.IssueFault.{IssueFault}
use Rattle.mapdb_replica.specs.declared.faults.TakeFault.{TakeFault}
use Rattle.mapdb_cluster.specs.Net.{Done, Net, at_copy, delivered, issue_done, send_done, take_done, taken_at}
use Rattle.mapdb_cluster.specs.Run.{Happens, Loads, Move, after, move_done}
use Rattle.mapdb_cluster.specs.declared.events.Event.TheVariants as event

module _ (net : Net) where
  abbrev KeepsCopies : Done → Type 0
  KeepsCopies done = length done.net.copies ≡ length net.copies

  at_keeps : (o : Option Log) (done : Log → Done) → ((copy : Log) → KeepsCopies (done copy)) → KeepsCopies (at_copy net o done)
  at_keeps None done each = refl
  at_keeps (Some copy) done each = each copy

  issue_keeps : (at : ℕ) (copy : Log) (command : Command) (memory : Memory) (o : Result (List Op) IssueFault) → KeepsCopies (issue_done net at copy command memory o)
  issue_keeps at copy command memory (Err why) = refl
  issue_keeps at copy command memory (Ok ops) = length-set net.copies at (with_issued copy (lasting memory ops))

  take_keeps : (at : ℕ) (copy : Log) (batch : List Op) (memory : Memory) (o : Result (List Op) TakeFault) → KeepsCopies (take_done net at copy batch memory o)
  take_keeps at copy batch memory (Err why) = refl
  take_keeps at copy batch memory (Ok ops) = length-set net.copies at (take_left memory batch (Ok ops) copy)

  send_keeps : (memory : Memory) (o : Result (List Op) GiveFault) → KeepsCopies (send_done net memory o)
  send_keeps memory (Err why) = refl
  send_keeps Enough (Ok ops) = refl
  send_keeps (EndsAfter count) (Ok ops) = refl

  taken_keeps : (memory : Memory) (at : ℕ) (batch : List Op) (copy : Log) → KeepsCopies (taken_at net memory at batch copy)
  taken_keeps memory at batch copy = take_keeps at copy batch memory (take_outcome copy.ops batch)

  deliver_keeps : (memory : Memory) (to : ℕ) (o : Option (List Op)) (copy : Log) → KeepsCopies (delivered net memory to o copy)
  deliver_keeps memory to None copy = refl
  deliver_keeps memory to (Some batch) copy = taken_keeps memory to batch copy

  join_keeps : (b : Bool) (memory : Memory) (into : ℕ) (copy other : Log) (same : Done) → KeepsCopies same → KeepsCopies (if b then same else taken_at net memory into other.ops copy)
  join_keeps true memory into copy other same is = is
  join_keeps false memory into copy other same is = taken_keeps memory into other.ops copy

  move_keeps : (move : Move) → KeepsCopies (move_done net move)
  move_keeps (Happens (event.Issue at command) memory) =
      at_keeps (slice_get net.copies at) _ (λ copy. issue_keeps at copy command memory (command_outcome copy command))
  move_keeps (Happens (event.Send from first end) memory) =
      at_keeps (slice_get net.copies from) _ (λ copy. send_keeps memory (given copy.ops first end))
  move_keeps (Happens (event.Deliver message to) memory) =
      at_keeps (slice_get net.copies to) _ (λ copy. deliver_keeps memory to (slice_get net.messages message) copy)
  move_keeps (Happens (event.Join into from) memory) =
      at_keeps (slice_get net.copies into) _ (λ copy. at_keeps (slice_get net.copies from) _ (λ other. join_keeps (into == from) memory into copy other _ refl))
  move_keeps (Loads at ops memory) = at_keeps (slice_get net.copies at) _ (λ copy. taken_keeps memory at ops copy)

pub after_keeps : (net : Net) (moves : List Move) → length (after net moves).copies ≡ length net.copies
after_keeps net [] = refl
after_keeps net (move ∷ moves) = after_keeps (move_done net move).net moves ∙ move_keeps net move
