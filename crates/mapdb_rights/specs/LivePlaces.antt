-- Which records have their places listed among those that questions go over.
use Rattle.std.specs.Prelude.{◌≡◌, ℕ, Bool, true, false, Some}
use Rattle.mapdb_fpage.specs.Place.{IsPlace}
use Rattle.mapdb_fpage.specs.RightSets.{is_empty}
use Rattle.mapdb_fpage.specs.declared.right_sets.Rights.{Rights}
use Rattle.mapdb_facts.specs.Looking.{Holds}
use Rattle.mapdb_facts.specs.Merging.{IsNamed}
use Rattle.mapdb_facts.specs.Names.{same_id}
use Rattle.mapdb_facts.specs.State.{State}
use Rattle.mapdb_facts.specs.WellFormed.{IsFormedRecord}
use Rattle.mapdb_facts.specs.declared.names.RecordId.{RecordId}
use Rattle.mapdb_facts.specs.declared.operations.Record.{Record}
use Rattle.mapdb_lists.specs.Changes.{Cached}
use Rattle.mapdb_lists.specs.Listing.{AllAligned, is_listed}
use Rattle.mapdb_lists.specs.declared.places.Listed.{Listed}
use Rattle.mapdb_lists.specs.declared.places.Places.{Places}
use Rattle.mapdb_rights.specs.HeldPlaces.{place_of}
use Rattle.mapdb_rights.specs.Right.{rights_at}

-- there are rights at some page
abbrev pub HasSome : (ℕ → Rights) → Type 0
HasSome rights = (page : ℕ) × (is_empty (rights page) ≡ false)

-- the record has no right at any page
abbrev pub IsPowerless : State → Record → Type 0
IsPowerless S r = (page : ℕ) → is_empty (rights_at S r.id page) ≡ true

-- each record that is held and has rights at some page, as they are cached, has its place listed
abbrev pub HasLive : State → Cached → Places → Type 0
HasLive S cached live = (r : Record) → Holds S r → HasSome (cached r.id)
    → is_listed live (place_of r) ≡ true

-- the place of a held record that has rights at some page, as they are cached
pub record IsLiveEntry (S : State) (cached : Cached) (e : Listed) : Type 0 where
  pub r : Record
  pub held : Holds S r
  pub is : e ≡ place_of r
  pub some : HasSome (cached r.id)

-- the place of the record that is held under a name
pub record IsPlaceUnder (S : State) (id : RecordId) (e : Listed) : Type 0 where
  pub r : Record
  pub at : S.record_at id ≡ Some r
  pub is : e ≡ place_of r

-- just those records have their places listed, and what is listed is aligned
pub record ListsLive (S : State) (cached : Cached) (live : Places) : Type 0 where
  pub places : HasLive S cached live
  pub aligned : AllAligned live
  pub only : (e : Listed) → is_listed live e ≡ true → IsLiveEntry S cached e

-- so it was before the rights of one record were written, which had some then, or none
pub record ListedLive (S : State) (cached : Cached) (live : Places) (id : RecordId)
    (had_some : Bool) : Type 0 where
  pub before : Cached
  pub listed : ListsLive S before live
  pub others : (other : RecordId) (page : ℕ) → same_id id other ≡ false
      → cached other page ≡ before other page
  pub some : had_some ≡ true → HasSome (before id)
  pub none : had_some ≡ false → (page : ℕ) → is_empty (before id page) ≡ true

-- Just the records with a right at some page have their places listed; each record that is held
-- stands under its own name, is well-formed and has a place.
pub record AreLive (S : State) (live : Places) : Type 0 where
  pub named : IsNamed S
  pub formed : (r : Record) → Holds S r → IsFormedRecord r
  pub placed : (r : Record) → Holds S r → IsPlace r.place
  pub listed : ListsLive S (rights_at S) live
