-- What reports and faults of lines tell; and copies that all hold what was issued hold the same.
use Rattle.std.proofs.Common.{inl, inr}
use Rattle.std.specs.Prelude.{◌≡◌, ◌<◌, ℕ, List, length, refl, slice_index_or, Result, Ok, Err}
use Rattle.mapdb_facts.specs.State.{SameAtoms}
use Rattle.mapdb_replica.specs.declared.commands.Command.{Command}
use Rattle.mapdb_exchange.specs.Counts.{IsCount}
use Rattle.mapdb_exchange.specs.Reports.{AreParts, HoldSame}
use Rattle.mapdb_exchange.specs.declared.reports.Part.{Part}
use Rattle.mapdb_lines.specs.declared.fault.LineFault.{LineFault}
use Rattle.mapdb_script.specs.declared.faults.ScriptFault.TheVariants as script
use Rattle.mapdb_script.specs.Script.{fault_line}
use Rattle.mapdb_script.specs.Threading.{IsFaulty, scripts_of}
use Rattle.mapdb_program.specs.Threaded.{AnswersThreads, IsTextWritten, report_text}
use Rattle.mapdb_program.specs.declared.threaded.ThreadsFault.{ThreadsFault}
use Rattle.mapdb_program.specs.declared.threaded.ThreadsFault.TheVariants.{Run, Script}

-- what a report's text that was written tells
pub report_told : (result : Result (Unit {0}) ThreadsFault) (input front : List ℕ) (scripts : List (List Command)) (parts : List Part) (capacity : ℕ) (Over : Type 0)
    → scripts_of input ≡ Ok scripts → Over → IsCount (length scripts) capacity → AreParts scripts parts → HoldSame parts → IsTextWritten result (report_text parts) front
    → AnswersThreads capacity result input front Over
report_told (Ok done) input front scripts parts capacity Over is over few are same written = (over, (scripts, parts, is, few, are, same, written))
report_told (Err (Script script.Write)) input front scripts parts capacity Over is over few are same written =
    (report_text parts, inl (over, (scripts, parts, is, few, are, same, refl)), written)
report_told (Err (Script script.Memory)) input front scripts parts capacity Over is over few are same written = written
report_told (Err (Script script.Read)) input front scripts parts capacity Over is over few are same written = absurd written
report_told (Err (Script (script.Line number f))) input front scripts parts capacity Over is over few are same written = absurd written
report_told (Err (Run why)) input front scripts parts capacity Over is over few are same written = absurd written

-- what a fault's line that was not written tells
pub fault_told : (why : ThreadsFault) (input front : List ℕ) (number : ℕ) (f : LineFault) (capacity : ℕ) (Over : Type 0)
    → IsFaulty number f input Over → IsTextWritten (Err why) (fault_line number f) front → AnswersThreads capacity (Err why) input front Over
fault_told (Script script.Write) input front number f capacity Over is written = (fault_line number f, inr (number, f, is, refl), written)
fault_told (Script script.Memory) input front number f capacity Over is written = written
fault_told (Script script.Read) input front number f capacity Over is written = absurd written
fault_told (Script (script.Line other g)) input front number f capacity Over is written = absurd written
fault_told (Run why) input front number f capacity Over is written = absurd written
