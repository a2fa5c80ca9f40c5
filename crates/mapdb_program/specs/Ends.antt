-- How the program ends, by what its words ask for.
use Rattle.std.specs.Prelude.{◌≡◌, ◌≢◌, ◌⊎◌, ℕ, List, Bool, Option, Some, None, Result}
use Rattle.std.specs.Io.KnownBytes.{Appends, Consumes}
use Rattle.std.specs.declared.io.ErrorKind.{ErrorKind}
use Rattle.std.specs.declared.io.ErrorKind.TheVariants as io_kind
use Rattle.mapdb_lines.specs.Streams.{HasEnded}
use Rattle.mapdb_script.specs.Run.{TellsRun}
use Rattle.mapdb_script.specs.declared.faults.ScriptFault.{ScriptFault}
use Rattle.mapdb_script.specs.declared.faults.Summary.{Summary}
use Rattle.mapdb_script.specs.declared.faults.ScriptFault.TheVariants as script
use Rattle.mapdb_program.specs.Snapshots.{TellsSnapshot, snapshot_ending, snapshot_message}
use Rattle.mapdb_program.specs.Statuses.{Blames, IsTold, Refuses, TellsOutOfMemory, ending_of}
use Rattle.mapdb_program.specs.Statuses.{message_of, words_message}
use Rattle.mapdb_program.specs.Threaded.{TellsThreads, read_failed, threads_ending}
use Rattle.mapdb_program.specs.Threaded.{threads_message, write_failed}
use Rattle.mapdb_program.specs.declared.commands.Job.{Job}
use Rattle.mapdb_program.specs.declared.commands.Job.TheVariants.{Run, Tell, Threads}
use Rattle.mapdb_program.specs.declared.endings.Ending.{Ending}
use Rattle.mapdb_program.specs.declared.endings.Ending.TheVariants.{Refused}
use Rattle.mapdb_program.specs.declared.snapshots.Asked.{Asked}
use Rattle.mapdb_program.specs.declared.snapshots.TellFault.{TellFault}
use Rattle.mapdb_program.specs.declared.snapshots.TellFault.TheVariants as tell
use Rattle.mapdb_program.specs.declared.threaded.ThreadsFault.{ThreadsFault}

-- a reader: what was left, what is left now, whether it has ended, and whether it has failed
pub record ReaderUse : Type 0 where
  pub old : Option (List ℕ)
  pub new : Option (List ℕ)
  pub has_ended : Bool
  pub has_failed : Bool

-- a writer: what was written, what is written now, and whether it has failed
pub record WriterUse : Type 0 where
  pub old : Option (List ℕ)
  pub new : Option (List ℕ)
  pub has_failed : Bool

abbrev pub reader_use : Option (List ℕ) → Option (List ℕ) → Bool → Bool → ReaderUse
reader_use old new has_ended has_failed = record {
  old = old;
  new = new;
  has_ended = has_ended;
  has_failed = has_failed;
}

abbrev pub writer_use : Option (List ℕ) → Option (List ℕ) → Bool → WriterUse
writer_use old new has_failed = record { old = old; new = new; has_failed = has_failed }

-- how a run of a script ends
abbrev pub EndsRun : Ending → ReaderUse → WriterUse → WriterUse → Type 0
EndsRun ending reader writer errors =
    (outcome : Result Summary ScriptFault) × (input text : List ℕ)
    × Consumes reader.old reader.new input × Appends writer.old writer.new text
    × TellsRun outcome input text (HasEnded reader.has_ended reader.new)
    × Blames script.Read script.Write outcome reader.has_failed writer.has_failed
    × (ending ≡ ending_of outcome)
    × IsTold errors.old errors.new errors.has_failed (message_of outcome)

-- how a script in threads ends
abbrev pub EndsThreads : ℕ → Ending → ReaderUse → WriterUse → WriterUse → Type 0
EndsThreads capacity ending reader writer errors =
    (outcome : Result (Unit {0}) ThreadsFault) × (input text : List ℕ)
    × Consumes reader.old reader.new input × Appends writer.old writer.new text
    × TellsThreads capacity outcome input text (HasEnded reader.has_ended reader.new)
    × Blames read_failed write_failed outcome reader.has_failed writer.has_failed
    × (ending ≡ threads_ending outcome)
    × IsTold errors.old errors.new errors.has_failed (threads_message outcome)

-- how it ends that something is asked of a snapshot
abbrev pub EndsTell : Asked → Ending → ReaderUse → WriterUse → WriterUse → Type 0
EndsTell asked ending reader writer errors =
    (outcome : Result (Unit {0}) TellFault) × (input text : List ℕ)
    × Consumes reader.old reader.new input × Appends writer.old writer.new text
    × TellsSnapshot asked outcome input text (HasEnded reader.has_ended reader.new)
    × Blames tell.Read tell.Write outcome reader.has_failed writer.has_failed
    × (ending ≡ snapshot_ending outcome)
    × IsTold errors.old errors.new errors.has_failed (snapshot_message outcome)

-- memory ran out before anything was read or written: `Unused` says that nothing was
abbrev pub RanOut : Ending → Type 0 → WriterUse → Type 0
RanOut ending Unused errors = Unused
    × TellsOutOfMemory ending errors.old errors.new errors.has_failed

-- how the program ends where clap reads its words as this job, or refuses them
abbrev pub EndsFor : Option Job → Ending → Type 0 → ReaderUse → WriterUse → WriterUse → Type 0
EndsFor None ending Unused reader writer errors = Unused
    × Refuses ending errors.old errors.new errors.has_failed
EndsFor (Some Run) ending Unused reader writer errors = RanOut ending Unused errors
    ⊎ EndsRun ending reader writer errors
EndsFor (Some (Threads capacity)) ending Unused reader writer errors = RanOut ending Unused errors
    ⊎ EndsThreads capacity ending reader writer errors
EndsFor (Some (Tell asked)) ending Unused reader writer errors = RanOut ending Unused errors
    ⊎ EndsTell asked ending reader writer errors

-- how it ends where there are no words, since memory ran out or one is no UTF-8
abbrev pub EndsUnread : ErrorKind → Ending → Type 0 → WriterUse → Type 0
EndsUnread kind ending Unused errors = Unused
    × (kind ≡ io_kind.OutOfMemory → TellsOutOfMemory ending errors.old errors.new errors.has_failed)
    × (kind ≢ io_kind.OutOfMemory → (ending ≡ Refused)
    × IsTold errors.old errors.new errors.has_failed words_message)
    × Refuses ending errors.old errors.new errors.has_failed
