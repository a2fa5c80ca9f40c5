-- How the program ends, with which status, and what it tells on the errors.
use Rattle.std.specs.Prelude.{◌≡◌, ◌⊎◌, ◌↔◌, ℕ, List, [], Bool, true, false, Option, Result, Ok}
use Rattle.std.specs.Prelude.{Err, codes}
use Rattle.std.specs.Io.KnownBytes.{Appends}
use Rattle.mapdb_lines.specs.Fronts.{BeginsWith}
use Rattle.mapdb_program.specs.declared.endings.Ending.{Ending}
use Rattle.mapdb_program.specs.declared.endings.Ending.TheVariants.{Done, Faulty, Refused}
use Rattle.mapdb_program.specs.declared.endings.Ending.TheVariants.{StreamFailed, OutOfMemory}
use Rattle.mapdb_script.specs.declared.faults.Summary.{Summary}
use Rattle.mapdb_script.specs.declared.faults.ScriptFault.{ScriptFault}
use Rattle.mapdb_script.specs.declared.faults.ScriptFault.TheVariants as fault

-- the status of the process, by how the program ended
abbrev pub ending_status : Ending → ℕ
ending_status Done = 0
ending_status Faulty = 1
ending_status Refused = 2
ending_status StreamFailed = 3
ending_status OutOfMemory = 4

-- how the program ends where a script has this fault
abbrev pub fault_ending : ScriptFault → Ending
fault_ending (fault.Line number f) = Faulty
fault_ending fault.Read = StreamFailed
fault_ending fault.Write = StreamFailed
fault_ending fault.Memory = OutOfMemory

-- how the program ends, by the outcome of a run
abbrev pub ending_of : Result Summary ScriptFault → Ending
ending_of (Ok summary) = Done
ending_of (Err why) = fault_ending why

-- what is told where memory ran out
abbrev pub memory_message : List ℕ
memory_message = codes "l4map: out of memory\n"

-- what is told where a word of the command line is no UTF-8
abbrev pub words_message : List ℕ
words_message = codes "l4map: the command line is not UTF-8\n"

-- what is told where a read failed, and where a write did
abbrev pub read_message : List ℕ
read_message = codes "l4map: read failed\n"

abbrev pub write_message : List ℕ
write_message = codes "l4map: write failed\n"

-- what is told of a script's fault: nothing of a faulty line, which the output tells
abbrev pub fault_message : ScriptFault → List ℕ
fault_message (fault.Line number f) = []
fault_message fault.Read = read_message
fault_message fault.Write = write_message
fault_message fault.Memory = memory_message

-- what is told of a run
abbrev pub message_of : Result Summary ScriptFault → List ℕ
message_of (Ok summary) = []
message_of (Err why) = fault_message why

-- A writer that had written `old` has now written `new`, and it was told a message: all of it, or a
-- front where it failed.
abbrev pub IsTold : Option (List ℕ) → Option (List ℕ) → Bool → List ℕ → Type 0
IsTold old new has_failed message =
    (text : List ℕ) × Appends old new text × BeginsWith message text
    × (has_failed ≡ false → text ≡ message)

-- Memory ran out, which is told.
abbrev pub TellsOutOfMemory : Ending → Option (List ℕ) → Option (List ℕ) → Bool → Type 0
TellsOutOfMemory ending old new has_failed = (ending ≡ OutOfMemory)
    × IsTold old new has_failed memory_message

-- Words were refused, and some text was told, of which nothing is said; or there was no memory to
-- refuse them.
abbrev pub Refuses : Ending → Option (List ℕ) → Option (List ℕ) → Bool → Type 0
Refuses ending old new has_failed =
    ((ending ≡ Refused) × ((text : List ℕ) × IsTold old new has_failed text))
    ⊎ TellsOutOfMemory ending old new has_failed

-- The reader or the writer is blamed, by the fault of reads or that of writes, exactly where that
-- one has failed.
abbrev pub Blames : {A E : Type 0} → E → E → Result A E → Bool → Bool → Type 0
Blames read write outcome reader_failed writer_failed =
    ((outcome ≡ Err read) ↔ (reader_failed ≡ true))
    × ((outcome ≡ Err write) ↔ (writer_failed ≡ true))
