-- What the histories of an exchange say.
use Rattle.std.specs.Prelude.{ℕ, Bool, true, false, ◌≡◌, ◌≢◌, ◌⊎◌, ◌↔◌, ◌+◌, ◌<◌, ◌==◌, ◌&&◌, not}
use Rattle.std.specs.Prelude.{if◌then◌else◌, nat_lt, List, [], ◌∷◌, length, map, drop, slice_index}
use Rattle.std.specs.Prelude.{slice_index_or}
use Rattle.std.specs.List.{list_any, list_all}
use Rattle.mapdb_facts.specs.State.{Atom, HasAtom}
use Rattle.mapdb_facts.specs.declared.operations.Op.{Op}
use Rattle.mapdb_replica.specs.Replica.{empty}
use Rattle.mapdb_replica.specs.declared.commands.Command.{Command}
use Rattle.mapdb_replica.specs.declared.faults.IssueFault.TheVariants as issue
use Rattle.mapdb_replica.specs.declared.faults.TakeFault.TheVariants as take
use Rattle.mapdb_node.specs.Journals.{Replays}
use Rattle.mapdb_node.specs.declared.events.Entry.{Entry}
use Rattle.mapdb_node.specs.declared.events.NodeEvent.{NodeEvent}
use Rattle.mapdb_node.specs.declared.events.NodeEvent.TheVariants.{Issue, OwnAt, Served, Take}
use Rattle.mapdb_node.specs.declared.events.NodeReply.{NodeReply}
use Rattle.mapdb_node.specs.declared.events.NodeReply.TheVariants as reply
use Rattle.mapdb_exchange.specs.declared.reports.Part.{Part}

-- a command at a seat
abbrev pub at_seat : ℕ → Command → ℕ × Command
at_seat seat command = (seat, command)

-- the command of an event at a seat, if it is one, before others
abbrev pub with_issue : ℕ → NodeEvent → List (ℕ × Command) → List (ℕ × Command)
with_issue seat (Issue command) rest = at_seat seat command ∷ rest
with_issue seat (Take op) rest = rest
with_issue seat (Served space page) rest = rest
with_issue seat (OwnAt place) rest = rest

-- the commands among the entries, in order, each with its seat
abbrev pub issues_of : List Entry → List (ℕ × Command)
issues_of [] = []
issues_of (e ∷ es) = with_issue e.seat e.event (issues_of es)

-- the operation that an event takes, if it is at the seat, before others
abbrev pub with_take : Bool → NodeEvent → List Op → List Op
with_take true (Take op) rest = op ∷ rest
with_take true (Issue command) rest = rest
with_take true (Served space page) rest = rest
with_take true (OwnAt place) rest = rest
with_take false event rest = rest

-- the operations that were taken at this seat, in order
abbrev pub takes_of : ℕ → List Entry → List Op
takes_of seat [] = []
takes_of seat (e ∷ es) = with_take (e.seat == seat) e.event (takes_of seat es)

abbrev pub was_taken : NodeReply → Bool
was_taken (reply.Taken new) = true
was_taken (reply.Issued first count) = false
was_taken (reply.Revoked count) = false
was_taken reply.Ended = false
was_taken (reply.Served found) = false
was_taken (reply.Own op) = false
was_taken (reply.IssueRefused why) = false
was_taken (reply.TakeRefused why) = false

-- memory ran out inside the event
abbrev pub ran_out_of_memory : NodeReply → Bool
ran_out_of_memory (reply.IssueRefused (issue.Memory count)) = true
ran_out_of_memory (reply.TakeRefused (take.Memory count)) = true
ran_out_of_memory answer = false

-- where the event takes an operation, it does so at one of these seats, and the operation is held
abbrev pub is_heard : List ℕ → ℕ → NodeEvent → NodeReply → Bool
is_heard seats seat (Take op) answer = was_taken answer && list_any (λ s. s == seat) seats
is_heard seats seat (Issue command) answer = true
is_heard seats seat (Served space page) answer = true
is_heard seats seat (OwnAt place) answer = true

-- no seat's number stands twice
abbrev pub NoneTwice : List ℕ → Type 0
NoneTwice [] = Unit {0}
NoneTwice (seat ∷ seats) = (list_any (λ s. s == seat) seats ≡ false) × NoneTwice seats

-- the place, among the seats of processor k, of the seat that hears processor q
abbrev pub hearer_place : ℕ → ℕ → ℕ
hearer_place k q = if nat_lt q k then q + 1 else q

-- what processor k, of these seats, took from processor q: all that the seat took that hears q
abbrev pub taken_from : List ℕ → ℕ → ℕ → List Entry → List Op
taken_from seats k q entries = takes_of (slice_index seats (hearer_place k q)) entries

-- The part of processor k: its script at its first seat; and from each other processor, in order,
-- that one's own operations. Nothing else is taken, nothing taken was refused, and nowhere did
-- memory run out.
pub record IsPartOfReport (parts : List Part) (k : ℕ) (script : List Command) (p : Part)
    : Type 0 where
  pub number : p.processor ≡ k
  pub of_processor : p.history.copy.processor ≡ k
  pub commands : p.commands ≡ length script
  pub seats : length p.seats.items ≡ length parts
  pub apart : NoneTwice p.seats.items
  pub issues : issues_of p.history.entries ≡ map (at_seat (slice_index p.seats.items 0)) script
  pub takes : (q : ℕ) (d : Part) → q < length parts → q ≢ k
      → taken_from p.seats.items k q p.history.entries
      ≡ (slice_index_or parts q d).history.copy.own
  pub only : list_all (λ e. is_heard (drop 1 p.seats.items) e.seat e.event e.reply)
      p.history.entries ≡ true
  pub memory : list_all (λ e. not (ran_out_of_memory e.reply)) p.history.entries ≡ true
  pub replays : Replays (empty p.history.copy.processor) p.history.entries p.history.copy

-- one part for each script, in order
pub record AreParts (scripts : List (List Command)) (parts : List Part) : Type 0 where
  pub count : length parts ≡ length scripts
  pub each : (k : ℕ) (d : Part) → k < length parts
      → IsPartOfReport parts k (slice_index_or scripts k []) (slice_index_or parts k d)

-- one of the processors issued an operation with this atom
abbrev pub IsIssuedByOne : Atom → List Part → Type 0
IsIssuedByOne atom [] = ⊥
IsIssuedByOne atom (p ∷ ps) = HasAtom p.history.copy.own atom ⊎ IsIssuedByOne atom ps

-- each copy holds exactly the atoms of what all processors issued
abbrev pub HoldSame : List Part → Type 0
HoldSame parts = (k : ℕ) (d : Part) → k < length parts → (atom : Atom)
    → HasAtom (slice_index_or parts k d).history.copy.ops atom ↔ IsIssuedByOne atom parts
