-- Whether processor 0's copy shows what the sequential tree of its commands has. That stands in
-- place of the commands.
use Rattle.std.specs.Prelude.{◌≡◌, ◌⊎◌, ◌↔◌, ◌+◌, ◌-◌, ℕ, Bool, true, false, not, List, Option}
use Rattle.std.specs.Prelude.{None, Some, IfSome, IsTrue, slice_get}
use Rattle.mapdb_fpage.specs.Place.{holds}
use Rattle.mapdb_fpage.specs.RightSets.{common, is_empty}
use Rattle.mapdb_fpage.specs.Transfer.{transfer_of}
use Rattle.mapdb_fpage.specs.declared.items.Transfer.{Transfer}
use Rattle.mapdb_fpage.specs.declared.right_sets.Rights.{Rights}
use Rattle.mapdb_facts.specs.declared.names.Space.{Space}
use Rattle.mapdb_replica.specs.Pairs.{Pair}
use Rattle.mapdb_replica.specs.Replica.{Log, empty}
use Rattle.mapdb_replica.specs.Served.{served}
use Rattle.mapdb_replica.specs.declared.commands.Command.{Command}
use Rattle.mapdb_tree.specs.Tree.{Tree, first_tree}
use Rattle.mapdb_sequential.specs.Plain.{AreCommands, IsPlain}
use Rattle.mapdb_cluster.specs.Alone.{commands_of}
use Rattle.mapdb_lines.specs.declared.lines.Line.{Line}
use Rattle.mapdb_lines.specs.declared.lines.Line.TheVariants as line
use Rattle.mapdb_script.specs.Accepting.{Accepted}
use Rattle.mapdb_script.specs.Moves.{moves_of}
use Rattle.mapdb_script.specs.NarrowTrees.{carries_narrow, names_narrow, narrow_tree}

-- What stands in place of the commands.

-- After these commands, of which it refused none, the copy shows what their tree has.
pub record ShowsTree (log : Log) (commands : List Command) : Type 0 where
  pub tree : Tree
  pub plain : IsPlain (empty 0) first_tree commands log tree
  pub places : AreCommands commands
  pub is : narrow_tree commands ≡ Some tree

-- The copy shows it, or there is no tree to compare it with, now or later.
abbrev pub CopiesStandFor : Bool → List Log → Accepted → Type 0
CopiesStandFor true copies accepted = (accepted.is_alone ≡ true)
    × IfSome (slice_get copies 0) (λ log. ShowsTree log accepted.commands)
CopiesStandFor false copies accepted = (accepted.is_alone ≡ false)
    ⊎ (narrow_tree accepted.commands ≡ None)

-- What a line does to that, where it is not refused.

-- the places that the line's command names are places
abbrev pub NamesPlaces : Line → Type 0
NamesPlaces said = AreCommands (commands_of (moves_of said))

-- what a page is served from shares a right with an item
abbrev pub shares : Option Pair → Rights → Bool
shares None rights = false
shares (Some pair) rights = not (is_empty (common pair.1 rights))

-- the number of the sender's page that goes to this page of the target
abbrev pub sent_page : Transfer → ℕ → ℕ
sent_page transfer number = transfer.source.first_page + (number - transfer.target.first_page)

-- no page of the receiver that would be mapped shows anything yet
abbrev pub IsFreeTarget : (Space → ℕ → Option Pair) → Space → Option Transfer → Space → Type 0
IsFreeTarget served_at sender None receiver = Unit {0}
IsFreeTarget served_at sender (Some transfer) receiver =
    (number : ℕ) → holds transfer.target number ≡ true
    → shares (served_at sender (sent_page transfer number)) transfer.rights ≡ true
    → served_at receiver number ≡ None

-- so it is at the copy of processor 0, if this is its number
abbrev pub IsSoAtFirst : List Log → ℕ → (Log → Type 0) → Type 0
IsSoAtFirst copies at IsSo = at ≡ 0 → IfSome (slice_get copies 0) IsSo

-- a Map goes on that is not too wide, and into an empty destination
abbrev pub MapGoesOn : Log → Space → Option Transfer → Space → Type 0
MapGoesOn log sender transfer receiver = (carries_narrow transfer ≡ true)
    × IsFreeTarget (served log.ops) sender transfer receiver

-- whether the copy shows the tree after the line
abbrev pub ShowsAfter : Bool → List Log → Line → Bool → Type 0
ShowsAfter shows copies (line.Processors count) after = IsTrue after
ShowsAfter shows copies (line.Map at sender item receiver window) after = IsTrue after
    ↔ IsTrue shows
    × IsSoAtFirst copies at (λ log. MapGoesOn log sender (transfer_of item window) receiver)
ShowsAfter shows copies (line.Unmap at space page rights flush) after = IsTrue after
    ↔ IsTrue shows × (at ≡ 0 → names_narrow page ≡ true)
ShowsAfter shows copies (line.Deliver message at) after = IsTrue after
    ↔ IsTrue shows × (at ≡ 0 → ⊥)
ShowsAfter shows copies (line.Merge into from) after = IsTrue after
    ↔ IsTrue shows × (into ≡ 0 → ⊥)
ShowsAfter shows copies (line.Load at text) after = IsTrue after ↔ IsTrue shows × (at ≡ 0 → ⊥)
ShowsAfter shows copies other after = after ≡ shows
