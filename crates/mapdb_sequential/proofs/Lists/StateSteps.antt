-- What a command does to a state of records.
use Rattle.std.specs.Prelude.{◌≡◌, ℕ, Bool, true, false, ◌&&◌, ◌||◌, ◌⊎◌, not, nat_lt, List, Some, None}
use Rattle.mapdb_fpage.specs.Place.{IsPlace, Place, holds}
use Rattle.mapdb_fpage.specs.RightSets.{common, includes, is_empty}
use Rattle.mapdb_fpage.specs.declared.items.Transfer.{Transfer}
use Rattle.mapdb_fpage.specs.declared.right_sets.Right.{Right}
use Rattle.mapdb_fpage.specs.declared.right_sets.Rights.{Rights}
use Rattle.mapdb_facts.specs.Names.{is_first_space, is_root, same_space}
use Rattle.mapdb_facts.specs.State.{State, state_of}
use Rattle.mapdb_facts.specs.declared.names.RecordId.{RecordId}
use Rattle.mapdb_facts.specs.declared.names.Space.{Space}
use Rattle.mapdb_facts.specs.declared.operations.Op.{Op}
use Rattle.mapdb_facts.specs.declared.operations.Record.{Record}
use Rattle.mapdb_replica.proofs.Copies.OpForms.{HasForm, IsKnown}
use Rattle.mapdb_rights.specs.PageRights.{is_into, lies_in}
use Rattle.mapdb_rights.specs.Right.{has_right, reaches, rights_at, source_page}
use Rattle.mapdb_replica.proofs.Unmaps.SharedPlaces.{number_behind}
use Rattle.mapdb_sequential.proofs.Trees.PathTrees.{goes_through}
use Rattle.mapdb_sequential.proofs.Trees.Showing.{ComesThrough}
use Rattle.mapdb_tree.specs.Tree.{is_in_part}
use Rattle.mapdb_tree.specs.declared.nodes.Page.{Page}

-- what an Unmap takes at a page of the space: the rights named, where the part has it
abbrev pub is_hit : Rights → Right → Bool → Bool
is_hit rights right there = includes rights right && there

-- The second state is the first after these rights were taken from the children of the space's records, and with a flush from these too.
pub record IsUnmappedState (S S' : State) (space : Space) (part : Place) (rights : Rights) (flush : Bool) : Type 0 where
  pub records : (id : RecordId) → S'.record_at id ≡ S.record_at id
  pub ends : (other : Space) → S'.is_ended other ≡ S.is_ended other
  pub kept : (id : RecordId) (page : ℕ) (right : Right) → S.is_cut id page right ≡ true → S'.is_cut id page right ≡ true
  pub at_root : (id : RecordId) (page : ℕ) (right : Right) → is_root id ≡ true
      → S'.is_cut id page right ≡ (S.is_cut id page right || is_hit rights right (flush && (is_first_space space && holds part page)))
  pub at_record : (id : RecordId) (r : Record) (page : ℕ) (right : Right) → is_root id ≡ false → S.record_at id ≡ Some r → reaches id r page ≡ true
      → lies_in S r.parent (source_page r page) ≡ true
      → S'.is_cut id page right ≡ (S.is_cut id page right || is_hit rights right
      ((is_into S space r.parent && holds part (source_page r page)) || (flush && (is_into S space id && holds part page))))

-- The second state has what the first has, without these rights of what lies below these pages of the space, and with a flush of these too.
pub record IsTaken (S S' : State) (space : Space) (part : Place) (rights : Rights) (flush : Bool) : Type 0 where
  pub records : (id : RecordId) → S'.record_at id ≡ S.record_at id
  pub less : (id : RecordId) (page : ℕ) (right : Right) → has_right S' id page right ≡ true → has_right S id page right ≡ true
  pub without_hits : (id : RecordId) (page frame : ℕ) (above : List Page) (spot : Page) (right : Right) → ComesThrough S id page frame above
      → is_into S spot.space id ≡ true → spot.number ≡ page
      → has_right S' id page right ≡ (has_right S id page right && not
      (is_hit rights right (goes_through space part above || (flush && is_in_part space part spot))))

-- The second state is the first after a space ended, all of whose records lie in the part.
pub record IsEndedState (S S' : State) (space : Space) (part : Place) : Type 0 where
  pub records : (id : RecordId) → S'.record_at id ≡ S.record_at id
  pub cuts : (id : RecordId) (page : ℕ) (right : Right) → S'.is_cut id page right ≡ S.is_cut id page right
  pub ends : (other : Space) → S'.is_ended other ≡ (S.is_ended other || same_space space other)
  pub not_first : is_first_space space ≡ false
  pub complete : (id : RecordId) (r : Record) (page : ℕ) → S.record_at id ≡ Some r → holds r.place page ≡ true → holds part page ≡ true

-- each record's parent is known, and nothing is taken from a name that is not
pub record IsGrown (S : State) : Type 0 where
  pub parents : (id : RecordId) (r : Record) → S.record_at id ≡ Some r → IsKnown S r.parent
  pub targets : (id : RecordId) (page : ℕ) (right : Right) → is_root id ≡ false → S.record_at id ≡ None → S.is_cut id page right ≡ false

-- a record that a Map makes of a record or the root of the sender's space
pub record IsPiece (S : State) (sender : Space) (source : Place) (receiver : Space) (target : Place) (rights : Rights) (id : RecordId)
    (r : Record) : Type 0 where
  pub fresh : S.record_at id ≡ None
  pub below : is_root id ≡ false
  pub known : IsKnown S r.parent
  pub into : r.space ≡ receiver
  pub named : r.rights ≡ rights
  pub from : is_into S sender r.parent ≡ true
  pub before : nat_lt r.parent.number id.number ≡ true
  pub within : (page : ℕ) → holds r.place page ≡ true → holds target page ≡ true
  pub behind : (page : ℕ) → holds r.place page ≡ true → source_page r page ≡ number_behind source target page

-- The second state is the first with the records of a Map.
pub record IsMappedState (S S' : State) (sender : Space) (source : Place) (receiver : Space) (target : Place) (rights : Rights) : Type 0 where
  pub old : (id : RecordId) (r : Record) → S.record_at id ≡ Some r → S'.record_at id ≡ Some r
  pub new : (id : RecordId) (r : Record) → S'.record_at id ≡ Some r → (S.record_at id ≡ Some r) ⊎ IsPiece S sender source receiver target rights id r
  pub cuts : (id : RecordId) (page : ℕ) (right : Right) → S'.is_cut id page right ≡ S.is_cut id page right
  pub ends : (space : Space) → S'.is_ended space ≡ S.is_ended space
  pub alive : S.is_ended receiver ≡ false
  pub not_first : is_first_space receiver ≡ false
  pub one_each : (a b : RecordId) (r s : Record) → IsPiece S sender source receiver target rights a r → S'.record_at a ≡ Some r
      → IsPiece S sender source receiver target rights b s → S'.record_at b ≡ Some s → r.parent ≡ s.parent → a ≡ b
  pub each : (holder : RecordId) (page : ℕ) → is_into S sender holder ≡ true → holds target page ≡ true
      → is_empty (common (rights_at S holder (number_behind source target page)) rights) ≡ false
      → (id : RecordId) × (r : Record) × (S'.record_at id ≡ Some r) × IsPiece S sender source receiver target rights id r × (r.parent ≡ holder)
      × (holds r.place page ≡ true)

-- both are places, of one size
pub record IsTransfer (transfer : Transfer) : Type 0 where
  pub from : IsPlace transfer.source
  pub to : IsPlace transfer.target
  pub size : transfer.source.order ≡ transfer.target.order

-- what a copy's state keeps that hears from no other
pub record IsSettled (S : State) : Type 0 where
  pub form : HasForm S
  pub grown : IsGrown S

abbrev pub IsKept : List Op → Type 0
IsKept ops = IsSettled (state_of ops)
