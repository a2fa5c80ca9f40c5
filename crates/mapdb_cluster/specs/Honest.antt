-- Honest runs: copies take only what copies of the run have issued, so nothing is refused as bad,
-- nor for a clash.
use Rattle.std.specs.Prelude.{◌≡◌, ℕ, ◌≤◌, List, [], ◌∷◌, slice_get, Some}
use Rattle.mapdb_facts.specs.Names.{processor_limit}
use Rattle.mapdb_facts.specs.Records.{IsAmong}
use Rattle.mapdb_facts.specs.State.{ListsDoNotClash}
use Rattle.mapdb_facts.specs.declared.operations.Op.{Op}
use Rattle.mapdb_facts.specs.declared.operations.Op.TheVariants.{Born, Closed, Cut}
use Rattle.mapdb_replica.specs.Commands.{IsCommand}
use Rattle.mapdb_replica.specs.Replica.{Log}
use Rattle.mapdb_replica.specs.declared.faults.TakeFault.TheVariants.{Bad, Clash}
use Rattle.mapdb_cluster.specs.Net.{Net, new_net}
use Rattle.mapdb_cluster.specs.Run.{Happens, Loads, Move, Run, last_net, replies}
use Rattle.mapdb_cluster.specs.declared.events.Event.{Event}
use Rattle.mapdb_cluster.specs.declared.events.Event.TheVariants.{Deliver, Issue, Join, Send}
use Rattle.mapdb_cluster.specs.declared.events.Refusal.TheVariants.{Take}
use Rattle.mapdb_cluster.specs.declared.events.Reply.{Reply}
use Rattle.mapdb_cluster.specs.declared.events.Reply.TheVariants.{Refused}

-- a copy has issued the operation: of a record that of the processor in its name, of any other
-- operation some copy
abbrev pub IsIssued : Net → Op → Type 0
IsIssued net (Born r) = (issuer : Log) × (slice_get net.copies r.id.processor ≡ Some issuer)
    × IsAmong (Born r) issuer.own
IsIssued net (Cut cut) = (at : ℕ) × (issuer : Log) × (slice_get net.copies at ≡ Some issuer)
    × IsAmong (Cut cut) issuer.own
IsIssued net (Closed space) = (at : ℕ) × (issuer : Log) × (slice_get net.copies at ≡ Some issuer)
    × IsAmong (Closed space) issuer.own

-- All that copies hold, and all that stands in messages, was issued by a copy, and no two different
-- records have one name, of one copy or of two.
pub record IsHonest (net : Net) : Type 0 where
  pub held : (at : ℕ) (copy : Log) (op : Op) → slice_get net.copies at ≡ Some copy
      → IsAmong op copy.ops → IsIssued net op
  pub sent : (message : ℕ) (batch : List Op) (op : Op)
      → slice_get net.messages message ≡ Some batch → IsAmong op batch → IsIssued net op
  pub one_each : (at other : ℕ) (copy another : Log) → slice_get net.copies at ≡ Some copy
      → slice_get net.copies other ≡ Some another
      → ListsDoNotClash copy.ops another.ops

-- no operation is refused as bad, nor for a clash
abbrev pub IsTrusted : Reply → Type 0
IsTrusted (Refused (Take (Bad place why))) = ⊥
IsTrusted (Refused (Take (Clash id))) = ⊥
IsTrusted reply = Unit {0}

abbrev pub AllTrusted : List Reply → Type 0
AllTrusted [] = Unit {0}
AllTrusted (reply ∷ replies) = IsTrusted reply × AllTrusted replies

-- an event whose places are places
abbrev pub IsEvent : Event → Type 0
IsEvent (Issue at command) = IsCommand command
IsEvent (Send from first end) = Unit {0}
IsEvent (Deliver message to) = Unit {0}
IsEvent (Join into from) = Unit {0}

-- all are events: no list comes from outside
abbrev pub AreEvents : List Move → Type 0
AreEvents [] = Unit {0}
AreEvents (Happens event memory ∷ moves) = IsEvent event × AreEvents moves
AreEvents (Loads at ops memory ∷ moves) = ⊥

-- runs of events alone, from nothing on
abbrev pub HonestRuns : Type 0
HonestRuns =
    (run : Run) → run.count ≤ processor_limit → AreEvents run.moves
    → IsHonest (last_net run) × AllTrusted (replies (new_net run.count) run.moves)
