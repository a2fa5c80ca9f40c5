use Rattle.std.proofs.Common.{◌≡◌, ℕ, ◌-◌, ◌<◌, true}
use Rattle.mapdb_fpage.specs.Bounds.{page_limit}
use Rattle.mapdb_fpage.specs.RightSets.{is_empty}
use Rattle.mapdb_lists.specs.Changes.{changed}
use Rattle.mapdb_lists.specs.OwnChanges.{mapped_change}
use Rattle.mapdb_lists.proofs.many_changes.many_rights.Given as goal

-- at the pages that were passed there is no right
abbrev pub invariant-pages : goal.invariant-pages
invariant-pages l = (q : ℕ) → q < l.page → is_empty (changed (mapped_change l.map) l.before q).rights ≡ true

abbrev pub decreases-pages : goal.decreases-pages
decreases-pages l = page_limit - l.page
