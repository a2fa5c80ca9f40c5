-- What the lines of a script say is commands and other events, whose places are places, and `load`.
use Rattle.std.proofs.Common.{ℕ, Err, Ok, Result, Some, List, [], ◌∷◌, ◌++◌}
use Rattle.std.specs.Prelude.{IfOk, None, Option, flat_map}
use Rattle.mapdb_facts.specs.declared.operations.Op.{Op}
use Rattle.mapdb_snapshot.specs.Reading.{snapshot_of}
use Rattle.mapdb_snapshot.specs.declared.faults.SnapshotFault.{SnapshotFault}
use Rattle.mapdb_sequential.specs.Plain.{AreCommands}
use Rattle.mapdb_cluster.specs.Alone.{commands_of}
use Rattle.mapdb_cluster.specs.Honest.{AreEvents}
use Rattle.mapdb_cluster.specs.Run.{Move}
use Rattle.mapdb_lines.specs.Grammar.{said_by}
use Rattle.mapdb_lines.specs.declared.fault.LineFault.{LineFault}
use Rattle.mapdb_lines.specs.declared.lines.Line.{Line}
use Rattle.mapdb_lines.specs.declared.lines.Line.TheVariants as line
use Rattle.mapdb_lines.proofs.NamedPlaces.{NamesPlaces, SaysPlaces, said_places}
use Rattle.mapdb_script.specs.Moves.{HaveNoLoad, loads_of, moves_in, moves_of, said_in, said_of}

-- Commands.

load_commands : (at : ℕ) (said : Result (List Op) SnapshotFault) (later : List Move) → AreCommands (commands_of later) → AreCommands (commands_of (loads_of at said ++ later))
load_commands at (Ok ops) later are = are
load_commands at (Err why) later are = are

line_commands : (said : Line) → NamesPlaces said → (later : List Move) → AreCommands (commands_of later) → AreCommands (commands_of (moves_of said ++ later))
line_commands (line.Map at sender item receiver window) is later are = (is, are)
line_commands (line.Unmap at space page rights flush) is later are = (is, are)
line_commands (line.End at space) is later are = (tt, are)
line_commands (line.Load at text) is later are = load_commands at (snapshot_of text) later are
line_commands other is later are = are

said_commands : (o : Result (Option Line) LineFault) → IfOk o SaysPlaces → (later : List Line) → AreCommands (commands_of (flat_map moves_of later)) → AreCommands (commands_of (flat_map moves_of (said_in o ++ later)))
said_commands (Err why) is later are = are
said_commands (Ok None) is later are = are
said_commands (Ok (Some said)) is later are = line_commands said is (flat_map moves_of later) are

pub are_commands : (lines : List (List ℕ)) → AreCommands (commands_of (moves_in lines))
are_commands [] = tt
are_commands (bytes ∷ rest) = said_commands (said_by bytes) (said_places bytes) (said_of rest) (are_commands rest)

-- Events.

-- what is said first is an event, or no move
line_events : (said : Line) → NamesPlaces said → (later : List Line) → (HaveNoLoad later → AreEvents (flat_map moves_of later)) → HaveNoLoad (said ∷ later) → AreEvents (moves_of said ++ flat_map moves_of later)
line_events (line.Map at sender item receiver window) is later each none = (is, each none)
line_events (line.Unmap at space page rights flush) is later each none = (is, each none)
line_events (line.End at space) is later each none = (tt, each none)
line_events (line.Send at first end) is later each none = (tt, each none)
line_events (line.Deliver message at) is later each none = (tt, each none)
line_events (line.Merge into from) is later each none = (tt, each none)
line_events (line.Load at text) is later each none = absurd none
line_events query is later each none = each none

said_events : (o : Result (Option Line) LineFault) → IfOk o SaysPlaces → (later : List Line) → (HaveNoLoad later → AreEvents (flat_map moves_of later)) → HaveNoLoad (said_in o ++ later) → AreEvents (flat_map moves_of (said_in o ++ later))
said_events (Err why) is later each none = each none
said_events (Ok None) is later each none = each none
said_events (Ok (Some said)) is later each none = line_events said is later each none

pub are_events : (lines : List (List ℕ)) → HaveNoLoad (said_of lines) → AreEvents (moves_in lines)
are_events [] none = tt
are_events (bytes ∷ rest) none = said_events (said_by bytes) (said_places bytes) (said_of rest) (are_events rest) none
