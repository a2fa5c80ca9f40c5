use Rattle.std.proofs.Common.{◌-◌, ◌≤◌}
use Rattle.mapdb_facts.specs.Facts.{state_of_facts}
use Rattle.mapdb_fpage.specs.Bounds.{page_limit}
use Rattle.mapdb_rights.specs.PlaceWalks.{HasCome}
use Rattle.mapdb_rights.specs.ShownSpaces.{CoverPages, IsShownFrom}
use Rattle.mapdb_rights.proofs.index.rights_index.RightsIndex.shown_pages.Given as goal

-- the parts so far, and the walk has come to where they end
abbrev pub invariant-pages : goal.invariant-pages
invariant-pages l = record {
  limit : l.page ≤ page_limit;
  come : HasCome l.places.items l.page l.walk;
  shown : CoverPages (IsShownFrom (state_of_facts l.facts) l.space) 0 l.page l.shown.items;
}

abbrev pub decreases-pages : goal.decreases-pages
decreases-pages l = page_limit - l.page
