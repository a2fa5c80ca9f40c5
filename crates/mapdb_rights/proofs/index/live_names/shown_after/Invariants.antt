use Rattle.mapdb_facts.specs.Facts.{state_of_facts}
use Rattle.mapdb_lists.specs.Listing.{left_above}
use Rattle.mapdb_rights.proofs.Places.PlaceNames.{entry_of}
use Rattle.mapdb_rights.proofs.Live.ShownNames.{Further}
use Rattle.mapdb_rights.proofs.index.live_names.shown_after.Given as goal

-- none of those that are left out has a right at the page
abbrev pub invariant-names : goal.invariant-names
invariant-names l = Further l.live (state_of_facts l.facts) l.space l.page l.place l.fn.after l.from

abbrev pub decreases-names : goal.decreases-names
decreases-names l = left_above l.live (entry_of l.place l.from)
