-- What an index keeps, and what it stands for.
use Rattle.std.specs.Prelude.{◌≡◌, List}
use Rattle.mapdb_facts.specs.Looking.{Holds}
use Rattle.mapdb_facts.specs.Merging.{IsNamed}
use Rattle.mapdb_facts.specs.State.{State, join, said}
use Rattle.mapdb_facts.specs.WellFormed.{IsFormedRecord}
use Rattle.mapdb_facts.specs.declared.operations.Op.{Op}
use Rattle.mapdb_facts.specs.declared.operations.Record.{Record}
use Rattle.mapdb_lists.specs.declared.changes.AllChanges.{AllChanges}
use Rattle.mapdb_lists.specs.Changes.{cached_in}
use Rattle.mapdb_lists.specs.Listing.{AllAligned}
use Rattle.mapdb_lists.specs.declared.places.Places.{Places}
use Rattle.mapdb_rights.specs.Caching.{AreRights}
use Rattle.mapdb_rights.specs.CachedFrames.{AreFrames}
use Rattle.mapdb_rights.specs.HeldPlaces.{AreOfHeld, HasSources}
use Rattle.mapdb_rights.specs.IdlePlaces.{HasIdle}
use Rattle.mapdb_rights.specs.LivePlaces.{AreLive, ListsLive}
use Rattle.mapdb_rights.specs.Pending.{AreSettledBut}
use Rattle.mapdb_rights.specs.declared.index.stale.Stale.{Stale}

-- the source of each record that is held is listed, as far as it is not revoked, and of no other
-- record a source or a place, and what is listed is aligned; each record that is held stands under
-- its own name and is well-formed
pub record AreListed (S : State) (listed : Places) : Type 0 where
  pub named : IsNamed S
  pub formed : (r : Record) → Holds S r → IsFormedRecord r
  pub sources : HasSources S listed
  pub aligned : AllAligned listed
  pub held : AreOfHeld S listed

-- so it was for a state that the operation made this one
pub record WereListed (listed : Places) (op : Op) (S : State) : Type 0 where
  pub before : State
  pub is : S ≡ join before (said op)
  pub listed_there : AreListed before listed

-- What questions go over stands for the state: the cached rights are those of each record at each
-- page, where there are some the frame is the record's, and the records that have some are listed.
pub record Shows (changes : AllChanges) (live : Places) (S : State) : Type 0 where
  pub rights : AreRights S (cached_in changes.own.entries)
  pub frames : AreFrames S changes.own.entries
  pub live_there : AreLive S live

-- So it does but for pages that are stale: those of all others follow from the parents', no frame is
-- wrong, and the records that have rights by what is cached are listed.
pub record ShowsBut (changes : AllChanges) (listed live : Places) (S : State)
    (stale : List Stale) : Type 0 where
  pub listed_there : AreListed S listed
  pub settled : AreSettledBut S (cached_in changes.own.entries) stale
  pub frames : AreFrames S changes.own.entries
  pub live_there : ListsLive S (cached_in changes.own.entries) live

-- What is kept stands for the state: what questions go over, and the records that are held are
-- listed, each with its source, and with its place where it has no right.
pub record Stands (changes : AllChanges) (listed live : Places) (S : State) : Type 0 where
  pub shows : Shows changes live S
  pub listed_there : AreListed S listed
  pub idle_there : HasIdle S (cached_in changes.own.entries) listed

-- what is kept stood for a state that the operation made this one
pub record Stood (changes : AllChanges) (listed live : Places) (op : Op) (S : State)
    : Type 0 where
  pub before : State
  pub is : S ≡ join before (said op)
  pub stood : Stands changes listed live before
