-- What may not follow from its parent any more, and how much that is.
use Rattle.std.specs.Prelude.{◌≡◌, ℕ, ◌+◌, ◌-◌, ◌*◌, ◌^◌, true, ◌⊎◌, List, [], ◌∷◌}
use Rattle.mapdb_fpage.specs.Bounds.{page_limit}
use Rattle.mapdb_facts.specs.Names.{number_limit}
use Rattle.mapdb_facts.specs.State.{State}
use Rattle.mapdb_facts.specs.declared.names.RecordId.{RecordId}
use Rattle.mapdb_lists.specs.Changes.{Cached, covers}
use Rattle.mapdb_lists.specs.declared.places.Places.{Places}
use Rattle.mapdb_lists.specs.Listing.{listed_len}
use Rattle.mapdb_rights.specs.declared.index.stale.Stale.{Stale}
use Rattle.mapdb_rights.specs.Caching.{IsSettled}

-- the page of the name is among those that are stale
abbrev pub IsPending : List Stale → RecordId → ℕ → Type 0
IsPending [] id page = ⊥
IsPending (stale ∷ rest) id page = (covers stale.id stale.first stale.end id page ≡ true)
    ⊎ IsPending rest id page

-- each page of each name follows from its parent's, or is among those that are stale
abbrev pub AreSettledBut : State → Cached → List Stale → Type 0
AreSettledBut S cached stack = (id : RecordId) (page : ℕ)
    → IsSettled S cached id page ⊎ IsPending stack id page

-- What a page counts: a child's less than its parent's by a factor.
unfoldable pub worth : ℕ → ℕ → ℕ
worth base number = base ^ (number_limit - number)

-- what all pages of a record count, as one entry
abbrev pub share : ℕ → ℕ → ℕ
share base number = 1 + page_limit * worth base number

-- what is stale counts so much
abbrev pub weight : ℕ → List Stale → ℕ
weight base [] = 0
weight base (stale ∷ rest) =
    (1 + (stale.end - stale.first) * worth base stale.id.number) + weight base rest

-- more than what one record's children can count, for each page of it
abbrev pub base_of : Places → ℕ
base_of listed = listed_len listed * (1 + page_limit) + 1
