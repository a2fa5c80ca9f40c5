-- Runs of a cluster, with lists from outside too: what is replied, what the copies are in the end,
-- and what each of them took.
use Rattle.std.specs.Prelude.{ℕ, ◌++◌, ◌==◌, List, [], ◌∷◌, map, slice_get, Option}
use Rattle.std.specs.Prelude.{if◌then◌else◌}
use Rattle.mapdb_facts.specs.declared.operations.Op.{Op}
use Rattle.mapdb_replica.specs.Memory.{Enough, Memory}
use Rattle.mapdb_replica.specs.Replica.{Log}
use Rattle.mapdb_cluster.specs.Net.{Done, Net, at_processor, event_done, new_net, taken_at}
use Rattle.mapdb_cluster.specs.declared.events.Event.{Event}
use Rattle.mapdb_cluster.specs.declared.events.Reply.{Reply}

-- A move of a run, each with how far memory lasts: an event, or a copy that takes a list from
-- outside.
pub data Move : Type 0 where
  Happens : (event : Event) (memory : Memory) → Move
  Loads : (at : ℕ) (ops : List Op) (memory : Memory) → Move

abbrev pub move_done : Net → Move → Done
move_done net (Happens event memory) = event_done net event memory
move_done net (Loads at ops memory) = at_processor net at (λ copy. taken_at net memory at ops copy)

-- the net after the moves
abbrev pub after : Net → List Move → Net
after net [] = net
after net (move ∷ moves) = after (move_done net move).net moves

-- the replies to the moves
abbrev pub replies : Net → List Move → List Reply
replies net [] = []
replies net (move ∷ moves) = (move_done net move).reply ∷ replies (move_done net move).net moves

-- what a copy took by one move
abbrev pub took_by : Done → ℕ → List Op
took_by done at = if done.taker == at then done.took else []

-- what a copy took by the moves: what it issued, what stood in the messages and lists that it took,
-- and what the other copy held at a join; where memory ended, the part that stands
abbrev pub took : Net → List Move → ℕ → List Op
took net [] at = []
took net (move ∷ moves) at =
    took_by (move_done net move) at ++ took (move_done net move).net moves at

-- A run, from nothing on: how many processors there are, and what happens, one after the other.
pub record Run : Type 0 where
  pub count : ℕ
  pub moves : List Move

-- what the copies and messages are in the end
abbrev pub last_net : Run → Net
last_net run = after (new_net run.count) run.moves

-- the copy that a processor has in the end, if there is such a processor
abbrev pub copy_of : Run → ℕ → Option Log
copy_of run at = slice_get (last_net run).copies at

-- what the processor's copy took in the run
abbrev pub took_in : Run → ℕ → List Op
took_in run at = took (new_net run.count) run.moves at

-- the events, with memory enough
abbrev pub all_done : List Event → List Move
all_done events = map (λ event. Happens event Enough) events
