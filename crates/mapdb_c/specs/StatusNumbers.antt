-- The statuses that calls answer, and their numbers.
use Rattle.std.specs.Prelude.{◌≡◌, ℕ, List, [], ◌∷◌, Option, Some, None, slice_get}
use Rattle.mapdb_c.specs.declared.statuses.Status.{Status}
use Rattle.mapdb_c.specs.declared.statuses.Status.TheVariants.{Done, NoCopy, Memory, BadProcessor}
use Rattle.mapdb_c.specs.declared.statuses.Status.TheVariants.{BadSpace, NotServed, SpaceEnded}
use Rattle.mapdb_c.specs.declared.statuses.Status.TheVariants.{RootSpace, NumbersSpent, Full}
use Rattle.mapdb_c.specs.declared.statuses.Status.TheVariants.{Grant, NotMapItem, ReservedBits}
use Rattle.mapdb_c.specs.declared.statuses.Status.TheVariants.{ReservedBit, TooSmall, TooLarge}
use Rattle.mapdb_c.specs.declared.statuses.Status.TheVariants.{OutOfSpace, Unaligned, BadKind}
use Rattle.mapdb_c.specs.declared.statuses.Status.TheVariants.{BadNumber, ParentNotBefore}
use Rattle.mapdb_c.specs.declared.statuses.Status.TheVariants.{SourceUnaligned, PageOutOfSpace}
use Rattle.mapdb_c.specs.declared.statuses.Status.TheVariants.{BadRights, Clash, BadMark, NoRoom}
use Rattle.mapdb_c.specs.declared.statuses.Status.TheVariants.{NotJson, SnapshotShape}
use Rattle.mapdb_c.specs.declared.statuses.Status.TheVariants.{SnapshotVersion}

-- the number that C has for a status
abbrev pub status_number : Status → ℕ
status_number Done = 0
status_number NoCopy = 1
status_number Memory = 2
status_number BadProcessor = 3
status_number BadSpace = 4
status_number NotServed = 5
status_number SpaceEnded = 6
status_number RootSpace = 7
status_number NumbersSpent = 8
status_number Full = 9
status_number Grant = 10
status_number NotMapItem = 11
status_number ReservedBits = 12
status_number ReservedBit = 13
status_number TooSmall = 14
status_number TooLarge = 15
status_number OutOfSpace = 16
status_number Unaligned = 17
status_number BadKind = 18
status_number BadNumber = 19
status_number ParentNotBefore = 20
status_number SourceUnaligned = 21
status_number PageOutOfSpace = 22
status_number BadRights = 23
status_number Clash = 24
status_number BadMark = 25
status_number NoRoom = 26
status_number NotJson = 27
status_number SnapshotShape = 28
status_number SnapshotVersion = 29

-- the statuses, in the order of their numbers
abbrev pub all_statuses : List Status
all_statuses =
    Done ∷ NoCopy ∷ Memory ∷ BadProcessor ∷ BadSpace ∷ NotServed ∷ SpaceEnded ∷ RootSpace
    ∷ NumbersSpent ∷ Full ∷ Grant ∷ NotMapItem ∷ ReservedBits ∷ ReservedBit ∷ TooSmall
    ∷ TooLarge ∷ OutOfSpace ∷ Unaligned ∷ BadKind ∷ BadNumber ∷ ParentNotBefore
    ∷ SourceUnaligned ∷ PageOutOfSpace ∷ BadRights ∷ Clash ∷ BadMark ∷ NoRoom ∷ NotJson
    ∷ SnapshotShape ∷ SnapshotVersion ∷ []

abbrev pub or_done : Option Status → Status
or_done None = Done
or_done (Some status) = status

-- the status of a number
unfoldable pub status_at : ℕ → Status
status_at number = or_done (slice_get all_statuses number)

-- the number is that of a status, of which this is so
abbrev pub Tells : ℕ → (Status → Type 0) → Type 0
Tells number IsSo = (number ≡ status_number (status_at number)) × IsSo (status_at number)
