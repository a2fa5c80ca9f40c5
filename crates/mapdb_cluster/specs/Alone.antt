-- Runs in which one copy alone issues commands, and hears from no other.
use Rattle.std.specs.Prelude.{◌≡◌, ◌≢◌, ◌<◌, ℕ, List, [], ◌∷◌, Some}
use Rattle.mapdb_replica.specs.Memory.{Enough, Memory}
use Rattle.mapdb_replica.specs.Replica.{Log, empty}
use Rattle.mapdb_replica.specs.declared.commands.Command.{Command}
use Rattle.mapdb_tree.specs.Tree.{Tree, first_tree}
use Rattle.mapdb_tree.specs.declared.nodes.Page.{Page}
use Rattle.mapdb_sequential.specs.Plain.{AreCommands, IsPlain}
use Rattle.mapdb_sequential.specs.Sequential.{HasNode}
use Rattle.mapdb_cluster.specs.Run.{Happens, Loads, Move, Run, copy_of}
use Rattle.mapdb_cluster.specs.declared.events.Event.{Event}
use Rattle.mapdb_cluster.specs.declared.events.Event.TheVariants.{Deliver, Issue, Join, Send}

-- A command is issued at this processor, with memory enough; a copy may send; what others
-- hear is not looked at.
abbrev pub LeavesAlone : ℕ → Event → Memory → Type 0
LeavesAlone at (Issue to command) memory = (to ≡ at) × (memory ≡ Enough)
LeavesAlone at (Send from first end) memory = Unit {0}
LeavesAlone at (Deliver message to) memory = to ≢ at
LeavesAlone at (Join into from) memory = into ≢ at

-- all commands are issued at this processor, and its copy hears from no other, nor from outside
abbrev pub IsAlone : ℕ → List Move → Type 0
IsAlone at [] = Unit {0}
IsAlone at (Happens event memory ∷ moves) = LeavesAlone at event memory × IsAlone at moves
IsAlone at (Loads to ops memory ∷ moves) = (to ≢ at) × IsAlone at moves

-- the command of an event, if it is one, before others
abbrev pub with_command : Event → List Command → List Command
with_command (Issue to command) rest = command ∷ rest
with_command (Send from first end) rest = rest
with_command (Deliver message to) rest = rest
with_command (Join into from) rest = rest

-- the commands of the moves, in order
abbrev pub commands_of : List Move → List Command
commands_of [] = []
commands_of (Happens event memory ∷ moves) = with_command event (commands_of moves)
commands_of (Loads to ops memory ∷ moves) = commands_of moves

-- The copy is that of the run, and has the tree's nodes and nothing else.
pub record IsTheTree (run : Run) (at : ℕ) (log : Log) (T : Tree) : Type 0 where
  pub there : copy_of run at ≡ Some log
  pub nodes : (page : Page) → HasNode log T page

-- Commands issued at one processor alone, into empty destinations, give exactly the manual's tree,
-- whatever other copies hear of them.
abbrev pub RunsAloneAreTrees : Type 0
RunsAloneAreTrees =
    (run : Run) (at : ℕ) (log : Log) (T : Tree) → at < run.count → IsAlone at run.moves
    → AreCommands (commands_of run.moves)
    → IsPlain (empty at) first_tree (commands_of run.moves) log T → IsTheTree run at log T
