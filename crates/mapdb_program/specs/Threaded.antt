-- What a script in threads writes, and how it ends.
use Rattle.std.specs.Prelude.{◌≡◌, ◌⊎◌, ◌↔◌, ℕ, Bool, true, List, [], ◌++◌, Result, Ok, Err, codes}
use Rattle.std.specs.Prelude.{decimal, flat_map, length}
use Rattle.mapdb_replica.specs.declared.commands.Command.{Command}
use Rattle.mapdb_replica.specs.declared.faults.TakeFault.TheVariants as take
use Rattle.mapdb_exchange.specs.Counts.{IsCount}
use Rattle.mapdb_exchange.specs.Reports.{AreParts, HoldSame}
use Rattle.mapdb_exchange.specs.declared.faults.NodeFault.{NodeFault}
use Rattle.mapdb_exchange.specs.declared.faults.NodeFault.TheVariants as node
use Rattle.mapdb_exchange.specs.declared.faults.RunFault.{RunFault}
use Rattle.mapdb_exchange.specs.declared.faults.RunFault.TheVariants as run
use Rattle.mapdb_exchange.specs.declared.reports.Part.{Part}
use Rattle.mapdb_lines.specs.Fronts.{BeginsWith}
use Rattle.mapdb_lines.specs.Reading.{IsPart, StopsNear}
use Rattle.mapdb_script.specs.declared.faults.ScriptFault.TheVariants as script
use Rattle.mapdb_script.specs.Answering.{reply_line}
use Rattle.mapdb_script.specs.Reply.{same_text}
use Rattle.mapdb_script.specs.Script.{fault_line}
use Rattle.mapdb_script.specs.Threading.{HasReadScripts, IsFaulty, scripts_of}
use Rattle.mapdb_program.specs.Statuses.{fault_ending, fault_message, memory_message}
use Rattle.mapdb_program.specs.declared.endings.Ending.{Ending}
use Rattle.mapdb_program.specs.declared.endings.Ending.TheVariants.{Done, Faulty, OutOfMemory}
use Rattle.mapdb_program.specs.declared.threaded.ThreadsFault.{ThreadsFault}
use Rattle.mapdb_program.specs.declared.threaded.ThreadsFault.TheVariants.{Run, Script}

-- what is told of a processor: how many commands it had, and how many operations its copy issued
abbrev pub processor_text : Part → List ℕ
processor_text part = codes "processor " ++ (decimal part.processor
    ++ (codes " commands " ++ (decimal part.commands
    ++ (codes " issued " ++ decimal (length part.history.copy.own)))))

abbrev pub processor_line : Part → List ℕ
processor_line part = reply_line (processor_text part)

-- a line for each processor, and then that all copies hold the same
abbrev pub report_text : List Part → List ℕ
report_text parts = flat_map processor_line parts ++ reply_line (same_text true)

-- the text of a report on the scripts of the input, over links of this capacity
abbrev pub IsReport : ℕ → List ℕ → List ℕ → Type 0
IsReport capacity input text =
    (scripts : List (List Command)) × (parts : List Part) × (scripts_of input ≡ Ok scripts)
    × IsCount (length scripts) capacity
    × AreParts scripts parts × HoldSame parts × (text ≡ report_text parts)

-- the line that tells the fault of the input's first faulty line; `Over` says that the reader is
-- over
abbrev pub IsFaultLine : List ℕ → List ℕ → Type 0 → Type 0
IsFaultLine input text Over = (number : ℕ) × (f : _) × IsFaulty number f input Over
    × (text ≡ fault_line number f)

-- the faults of a reader, of a writer, and of memory that ran out
abbrev pub read_failed : ThreadsFault
read_failed = Script script.Read

abbrev pub write_failed : ThreadsFault
write_failed = Script script.Write

abbrev pub threads_out_of_memory : ThreadsFault
threads_out_of_memory = Script script.Memory

-- What is written of a text: all of it; a prefix of it where the writer failed; or nothing where
-- memory ran out.
abbrev pub IsTextWritten : Result (Unit {0}) ThreadsFault → List ℕ → List ℕ → Type 0
IsTextWritten (Ok done) whole front = front ≡ whole
IsTextWritten (Err (Script script.Write)) whole front = BeginsWith whole front
IsTextWritten (Err (Script script.Memory)) whole front = front ≡ []
IsTextWritten (Err (Script script.Read)) whole front = ⊥
IsTextWritten (Err (Script (script.Line number f))) whole front = ⊥
IsTextWritten (Err (Run why)) whole front = ⊥

-- What was written for an input of which this was read; `Over` says that the reader is over.
-- Nothing is written where the exchange gives no report; the count is at fault exactly where there
-- are none or too many scripts.
abbrev pub AnswersThreads : ℕ → Result (Unit {0}) ThreadsFault → List ℕ → List ℕ → Type 0 → Type 0
AnswersThreads capacity (Ok done) input text Over = Over × IsReport capacity input text
AnswersThreads capacity (Err (Script (script.Line number f))) input text Over =
    IsFaulty number f input Over × (text ≡ fault_line number f)
AnswersThreads capacity (Err (Script script.Read)) input text Over = HasReadScripts input IsPart
    × (text ≡ [])
AnswersThreads capacity (Err (Script script.Write)) input text Over =
    (whole : List ℕ) × ((Over × IsReport capacity input whole) ⊎ IsFaultLine input whole Over)
    × BeginsWith whole text
AnswersThreads capacity (Err (Script script.Memory)) input text Over = text ≡ []
AnswersThreads capacity (Err (Run why)) input text Over =
    Over × ((scripts : List (List Command)) × (scripts_of input ≡ Ok scripts)
    × (why ≡ run.BadCount ↔ (IsCount (length scripts) capacity → ⊥)))
    × (text ≡ [])

-- The same; and however it ends, little more was read than what a script may have.
abbrev pub TellsThreads : ℕ → Result (Unit {0}) ThreadsFault → List ℕ → List ℕ → Type 0 → Type 0
TellsThreads capacity result input text Over = AnswersThreads capacity result input text Over
    × StopsNear input

-- how the program ends where a run gave no report
abbrev pub run_ending : RunFault → Ending
run_ending run.BadCount = Faulty
run_ending run.Memory = OutOfMemory
run_ending run.NoThread = Faulty
run_ending (run.Node why) = Faulty
run_ending run.Gate = Faulty
run_ending run.Link = Faulty

-- how the program ends, by the outcome of a script in threads
abbrev pub threads_ending : Result (Unit {0}) ThreadsFault → Ending
threads_ending (Ok done) = Done
threads_ending (Err (Script fault)) = fault_ending fault
threads_ending (Err (Run why)) = run_ending why

-- what is told where a node did not do what a worker asked; a full journal and a full copy have
-- names of their own
abbrev pub node_message : NodeFault → List ℕ
node_message node.JournalFull = codes "run fault journal-full\n"
node_message (node.Refused take.Full) = codes "run fault full\n"
node_message why = codes "run fault node\n"

-- what is told of a run that gave no report
abbrev pub run_message : RunFault → List ℕ
run_message run.BadCount = codes "run fault count\n"
run_message run.Memory = memory_message
run_message run.NoThread = codes "run fault thread\n"
run_message (run.Node why) = node_message why
run_message run.Gate = codes "run fault gate\n"
run_message run.Link = codes "run fault link\n"

-- what is told of a script in threads: nothing of a faulty line, which the output tells
abbrev pub threads_message : Result (Unit {0}) ThreadsFault → List ℕ
threads_message (Ok done) = []
threads_message (Err (Script fault)) = fault_message fault
threads_message (Err (Run why)) = run_message why
