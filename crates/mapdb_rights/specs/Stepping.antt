-- What follows from what is cached of a record's parent.
use Rattle.std.specs.Prelude.{◌≡◌, ℕ, ◌<◌, ◌≤◌, false}
use Rattle.mapdb_fpage.specs.Bounds.{page_limit}
use Rattle.mapdb_fpage.specs.RightSets.{is_empty}
use Rattle.mapdb_facts.specs.State.{State}
use Rattle.mapdb_facts.specs.declared.names.RecordId.{RecordId}
use Rattle.mapdb_lists.specs.declared.changes.Change.{Change}
use Rattle.mapdb_lists.specs.declared.changes.Stretch.{Stretch}
use Rattle.mapdb_lists.specs.Changes.{PageChanges, cached_in}
use Rattle.mapdb_rights.specs.Caching.{rights_from}
use Rattle.mapdb_rights.specs.CachedFrames.{AreFrames, HasFrame}

-- From the page up to the end these rights follow from what is cached of the record's parent, and
-- with them this distance of the frames.
pub record Follows (S : State) (changes : PageChanges) (id : RecordId) (page end : ℕ)
    (change : Change) : Type 0 where
  pub rights : (q : ℕ) → page ≤ q → q < end
      → change.rights ≡ rights_from (cached_in changes) S id q
  pub frames : AreFrames S changes → is_empty change.rights ≡ false
      → (q : ℕ) → page ≤ q → q < end → HasFrame S id q change.shift

-- over the stretch of pages its change follows from what is cached of the record's parent
pub record IsGiven (S : State) (changes : PageChanges) (id : RecordId) (page : ℕ)
    (given : Stretch) : Type 0 where
  pub above : page < given.end
  pub limit : given.end ≤ page_limit
  pub follows : Follows S changes id page given.end given.change
