-- The statuses of faults.
use Rattle.mapdb_fpage.specs.declared.places.FpageFault.{FpageFault}
use Rattle.mapdb_fpage.specs.declared.places.FpageFault.TheVariants.{OutOfSpace, TooLarge}
use Rattle.mapdb_fpage.specs.declared.places.FpageFault.TheVariants.{TooSmall, Unaligned}
use Rattle.mapdb_fpage.specs.declared.words.ItemFault.{ItemFault}
use Rattle.mapdb_fpage.specs.declared.words.ItemFault.TheVariants.{Grant, NotMapItem, ReservedBits}
use Rattle.mapdb_fpage.specs.declared.words.ItemFault.TheVariants.{Word}
use Rattle.mapdb_fpage.specs.declared.words.WordFault.{WordFault}
use Rattle.mapdb_fpage.specs.declared.words.WordFault.TheVariants.{Page, ReservedBit}
use Rattle.mapdb_facts.specs.declared.checking.OpFault.{OpFault}
use Rattle.mapdb_facts.specs.declared.checking.OpFault.TheVariants as bad
use Rattle.mapdb_replica.specs.declared.faults.IssueFault.{IssueFault}
use Rattle.mapdb_replica.specs.declared.faults.IssueFault.TheVariants.{Full, Memory, NumbersSpent}
use Rattle.mapdb_replica.specs.declared.faults.IssueFault.TheVariants.{RootSpace, SpaceEnded}
use Rattle.mapdb_c.specs.declared.statuses.Status.{Status}
use Rattle.mapdb_c.specs.declared.statuses.Status.TheVariants as status

-- of a place that is none
abbrev pub place_status : FpageFault → Status
place_status TooSmall = status.TooSmall
place_status TooLarge = status.TooLarge
place_status OutOfSpace = status.OutOfSpace
place_status Unaligned = status.Unaligned

-- of a word that is none
abbrev pub word_status : WordFault → Status
word_status ReservedBit = status.ReservedBit
word_status (Page fault) = place_status fault

-- of words that are no map item
abbrev pub item_status : ItemFault → Status
item_status Grant = status.Grant
item_status NotMapItem = status.NotMapItem
item_status ReservedBits = status.ReservedBits
item_status (Word fault) = word_status fault

-- of an operation that is not well-formed
abbrev pub op_status : OpFault → Status
op_status bad.BadNumber = status.BadNumber
op_status bad.BadProcessor = status.BadProcessor
op_status bad.ParentNotBefore = status.ParentNotBefore
op_status bad.SourceUnaligned = status.SourceUnaligned
op_status bad.RootSpace = status.RootSpace
op_status bad.PageOutOfSpace = status.PageOutOfSpace

-- of a command that is refused
abbrev pub issue_status : IssueFault → Status
issue_status (SpaceEnded space) = status.SpaceEnded
issue_status RootSpace = status.RootSpace
issue_status NumbersSpent = status.NumbersSpent
issue_status Full = status.Full
issue_status (Memory issued) = status.Memory
