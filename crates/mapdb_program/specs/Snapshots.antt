-- What is told of a snapshot, and how that ends.
use Rattle.std.specs.Prelude.{◌≡◌, ◌⊎◌, ◌↔◌, ℕ, ◌<◌, ◌≤◌, ◌+◌, Bool, true, List, [], ◌++◌, length}
use Rattle.std.specs.Prelude.{Result, Ok, Err, codes}
use Rattle.mapdb_lines.specs.Fronts.{BeginsWith}
use Rattle.mapdb_lines.specs.Limits.{line_limit, read_ahead}
use Rattle.mapdb_picture.specs.Loading.{explained, pictured}
use Rattle.mapdb_picture.specs.declared.faults.LoadFault.{LoadFault}
use Rattle.mapdb_picture.specs.declared.faults.LoadFault.TheVariants.{Memory, Snapshot, Take}
use Rattle.mapdb_facts.specs.declared.checking.OpFault.{OpFault}
use Rattle.mapdb_fpage.specs.declared.places.FpageFault.{FpageFault}
use Rattle.mapdb_snapshot.specs.declared.faults.SnapshotFault.{SnapshotFault}
use Rattle.mapdb_snapshot.specs.declared.faults.SnapshotFault.TheVariants as snapshot
use Rattle.mapdb_replica.specs.declared.faults.TakeFault.{TakeFault}
use Rattle.mapdb_replica.specs.declared.faults.TakeFault.TheVariants as take
use Rattle.mapdb_script.specs.Reply.{bad_name, snapshot_name}
use Rattle.mapdb_program.specs.Statuses.{memory_message, read_message, write_message}
use Rattle.mapdb_program.specs.declared.endings.Ending.{Ending}
use Rattle.mapdb_program.specs.declared.endings.Ending.TheVariants.{Done, Faulty, OutOfMemory}
use Rattle.mapdb_program.specs.declared.endings.Ending.TheVariants.{StreamFailed}
use Rattle.mapdb_program.specs.declared.snapshots.Asked.{Asked}
use Rattle.mapdb_program.specs.declared.snapshots.Asked.TheVariants.{Page, Picture}
use Rattle.mapdb_program.specs.declared.snapshots.TellFault.{TellFault}
use Rattle.mapdb_program.specs.declared.snapshots.TellFault.TheVariants.{Load, Read, TooLong, Write}

-- what is told of a text
abbrev pub answer_told : Asked → List ℕ → Result (List ℕ) LoadFault
answer_told Picture bytes = pictured bytes
answer_told (Page space page) bytes = explained bytes space page

abbrev pub tell_out_of_memory : TellFault
tell_out_of_memory = Load Memory

-- No more was read than a line of a script may have and what is asked of a reader at once.
abbrev pub IsLittle : List ℕ → Type 0
IsLittle input = length input ≤ line_limit + read_ahead

-- more was read than a line of a script may have
abbrev pub IsTooLong : List ℕ → Type 0
IsTooLong input = (line_limit < length input) × IsLittle input

-- Why not all was read, of which this was read. The reader was asked for more, and failed, only
-- where no more was there than a line of a script may have.
abbrev pub IsUnread : TellFault → List ℕ → Type 0
IsUnread Read input = length input ≤ line_limit
IsUnread Write input = ⊥
IsUnread TooLong input = IsTooLong input
IsUnread (Load fault) input = (fault ≡ Memory) × IsLittle input

-- What is written of a text: all of it, or a prefix of it where the writer failed.
abbrev pub IsFront : Result (Unit {0}) TellFault → List ℕ → List ℕ → Type 0
IsFront (Ok done) whole front = front ≡ whole
IsFront (Err Write) whole front = BeginsWith whole front
IsFront (Err Read) whole front = ⊥
IsFront (Err TooLong) whole front = ⊥
IsFront (Err (Load fault)) whole front = ⊥

-- all was read, and it is no longer than a line of a script may be
abbrev pub IsAll : List ℕ → Type 0 → Type 0
IsAll input Over = Over × (length input ≤ line_limit)

-- What was written for an input of which this was read; `Over` says that the reader is over.
-- Nothing is written where the input is too long, or is no snapshot that a copy can hold.
abbrev pub TellsSnapshot : Asked → Result (Unit {0}) TellFault → List ℕ → List ℕ → Type 0 → Type 0
TellsSnapshot asked (Ok done) input text Over = IsAll input Over
    × (answer_told asked input ≡ Ok text)
TellsSnapshot asked (Err Read) input text Over = (text ≡ []) × IsUnread Read input
TellsSnapshot asked (Err Write) input text Over = IsAll input Over
    × ((whole : List ℕ) × (answer_told asked input ≡ Ok whole) × BeginsWith whole text)
TellsSnapshot asked (Err TooLong) input text Over = (text ≡ []) × IsTooLong input
TellsSnapshot asked (Err (Load fault)) input text Over =
    (text ≡ []) × (((fault ≡ Memory) × IsLittle input)
    ⊎ (IsAll input Over × (answer_told asked input ≡ Err fault)))

-- how the program ends where a text is no snapshot that a copy can hold
abbrev pub load_ending : LoadFault → Ending
load_ending Memory = OutOfMemory
load_ending (Snapshot fault) = Faulty
load_ending (Take fault) = Faulty

abbrev pub snapshot_ending : Result (Unit {0}) TellFault → Ending
snapshot_ending (Ok done) = Done
snapshot_ending (Err Read) = StreamFailed
snapshot_ending (Err Write) = StreamFailed
snapshot_ending (Err TooLong) = Faulty
snapshot_ending (Err (Load fault)) = load_ending fault

-- what is told where an operation of a snapshot is not well-formed
abbrev pub bad_message : OpFault → List ℕ
bad_message why = codes "l4map: refused bad " ++ (bad_name why ++ codes "\n")

-- what is told where a copy cannot take what a snapshot says
abbrev pub take_message : TakeFault → List ℕ
take_message (take.Bad place why) = bad_message why
take_message (take.Clash id) = codes "l4map: refused clash\n"
take_message take.Full = codes "l4map: refused full\n"
take_message (take.Memory count) = memory_message

-- what is told where a place of a snapshot is none
abbrev pub page_message : FpageFault → List ℕ
page_message why =
    codes "l4map: refused snapshot " ++ (snapshot_name (snapshot.Page why) ++ codes "\n")

-- what is told where a text is no snapshot
abbrev pub text_message : SnapshotFault → List ℕ
text_message snapshot.NotJson = codes "l4map: refused snapshot not-json\n"
text_message snapshot.Shape = codes "l4map: refused snapshot shape\n"
text_message snapshot.Version = codes "l4map: refused snapshot version\n"
text_message (snapshot.Page why) = page_message why
text_message snapshot.Memory = memory_message

-- what is told of a snapshot of which nothing is told
abbrev pub load_message : LoadFault → List ℕ
load_message Memory = memory_message
load_message (Snapshot fault) = text_message fault
load_message (Take fault) = take_message fault

-- what is told on the errors
abbrev pub snapshot_message : Result (Unit {0}) TellFault → List ℕ
snapshot_message (Ok done) = []
snapshot_message (Err Read) = read_message
snapshot_message (Err Write) = write_message
snapshot_message (Err TooLong) = codes "l4map: refused snapshot too-long\n"
snapshot_message (Err (Load fault)) = load_message fault
