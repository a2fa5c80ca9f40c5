-- Which records without rights have their places listed: what an Unmap goes over beside those with
-- rights.
use Rattle.std.specs.Prelude.{◌≡◌, ◌⊎◌, List, true}
use Rattle.mapdb_facts.specs.Looking.{Holds}
use Rattle.mapdb_facts.specs.State.{State}
use Rattle.mapdb_facts.specs.declared.names.RecordId.{RecordId}
use Rattle.mapdb_facts.specs.declared.operations.Record.{Record}
use Rattle.mapdb_lists.specs.Changes.{Cached}
use Rattle.mapdb_lists.specs.Listing.{is_listed}
use Rattle.mapdb_lists.specs.declared.places.Places.{Places}
use Rattle.mapdb_rights.specs.HeldPlaces.{place_of}
use Rattle.mapdb_rights.specs.LivePlaces.{HasSome}
use Rattle.mapdb_rights.specs.Meeting.{is_named}
use Rattle.mapdb_rights.specs.Revoked.{IsRevokedBelow}

-- its place is listed, unless each right is revoked from it and from its children
abbrev pub HasPlace : State → Places → Record → Type 0
HasPlace S listed r = IsRevokedBelow S r ⊎ (is_listed listed (place_of r) ≡ true)

-- so it is for each held record but for those with rights at some page, as they are cached
abbrev pub HasIdle : State → Cached → Places → Type 0
HasIdle S cached listed = (r : Record) → Holds S r → HasSome (cached r.id) ⊎ HasPlace S listed r

-- the name has rights at some page, as they are cached, or is one of these
abbrev pub IsNoted : Cached → List RecordId → RecordId → Type 0
IsNoted cached names id = HasSome (cached id) ⊎ (is_named names id ≡ true)

-- each name that was noted still is
abbrev pub StayNoted : Cached → List RecordId → Cached → List RecordId → Type 0
StayNoted before old cached new = (id : RecordId) → IsNoted before old id → IsNoted cached new id

-- so it is for each held record but for those that are noted
abbrev pub HasIdleBut : State → Cached → List RecordId → Places → Type 0
HasIdleBut S cached names listed = (r : Record) → Holds S r
    → IsNoted cached names r.id ⊎ HasPlace S listed r
