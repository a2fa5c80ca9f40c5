-- The faults of links and of workers.
use Rattle.std.specs.Prelude.{◌≡◌, ◌⊎◌, ℕ, ◌<◌, ◌≤◌, ◌+◌, Bool, true, false, List, [], ◌∷◌, ◌++◌}
use Rattle.std.specs.Prelude.{Option, Some, None}
use Rattle.std.specs.List.{AllByRecursion}
use Rattle.mapdb_exchange.specs.declared.messages.Message.{Message}
use Rattle.mapdb_exchange.specs.declared.links.PutFault.{PutFault}
use Rattle.mapdb_exchange.specs.declared.links.PutFault.TheVariants as put
use Rattle.mapdb_exchange.specs.declared.faults.NodeFault.{NodeFault}
use Rattle.mapdb_exchange.specs.declared.faults.NodeFault.TheVariants.{JournalFull, Own, Refused}
use Rattle.mapdb_exchange.specs.declared.faults.NodeFault.TheVariants.{Seats}
use Rattle.mapdb_exchange.specs.declared.faults.RunFault.{RunFault}
use Rattle.mapdb_exchange.specs.declared.faults.RunFault.TheVariants as run
use Rattle.mapdb_exchange.specs.declared.faults.Unstarted.{Unstarted}
use Rattle.mapdb_exchange.specs.declared.faults.WorkFault.{WorkFault}
use Rattle.mapdb_exchange.specs.declared.faults.WorkFault.TheVariants.{Gate, Link, Memory, Node}
use Rattle.mapdb_exchange.specs.declared.faults.WorkFault.TheVariants.{NoThread}

-- the message that a failed put hands back
abbrev pub put_message : PutFault → Message
put_message (put.AfterFin message) = message
put_message (put.Gone message) = message

abbrev pub is_after_fin : PutFault → Bool
is_after_fin (put.AfterFin message) = true
is_after_fin (put.Gone message) = false

-- what the run tells of a worker's fault
abbrev pub run_fault : WorkFault → RunFault
run_fault Memory = run.Memory
run_fault NoThread = run.NoThread
run_fault (Node why) = run.Node why
run_fault Gate = run.Gate
run_fault Link = run.Link

-- the turn of a node's fault in the order in which faults are told
abbrev pub node_turn : NodeFault → ℕ
node_turn JournalFull = 0
node_turn Seats = 1
node_turn Own = 2
node_turn (Refused why) = 3

-- the turn of a worker's fault in the order in which faults are told
abbrev pub fault_turn : WorkFault → ℕ
fault_turn Memory = 0
fault_turn NoThread = 1
fault_turn (Node why) = 2 + node_turn why
fault_turn Gate = 6
fault_turn Link = 7

-- a fault of a run in which no worker is at work: memory ran out, or a node gave no seat, or its
-- seats do not close it
abbrev pub IsSetupFault : WorkFault → Type 0
IsSetupFault fault = (fault ≡ Memory) ⊎ (fault ≡ Node Seats)

-- the fault of a run in which not every worker was started
abbrev pub missing : Option Unstarted → Option WorkFault
missing None = None
missing (Some unstarted) = Some NoThread

-- the fault, where there is one
abbrev pub listed : Option WorkFault → List WorkFault
listed None = []
listed (Some fault) = fault ∷ []

-- the fault stands among these, none of them comes before it in the order, and of those of its turn
-- it is the first
pub record IsFirstFault (faults : List WorkFault) (fault : WorkFault) : Type 0 where
  pub before : List WorkFault
  pub after : List WorkFault
  pub stands : faults ≡ before ++ fault ∷ after
  pub sooner : AllByRecursion (λ f. fault_turn fault < fault_turn f) before
  pub later : AllByRecursion (λ f. fault_turn fault ≤ fault_turn f) after
