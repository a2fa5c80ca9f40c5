use Rattle.std.proofs.Common.{◌≡◌, ◌≤◌, ◌<◌, true, length}
use Rattle.mapdb_fpage.specs.Bounds.{page_limit}
use Rattle.mapdb_facts.specs.Facts.{state_of_facts}
use Rattle.mapdb_facts.specs.Names.{is_first_space, root}
use Rattle.mapdb_lists.specs.Changes.{cached_in}
use Rattle.mapdb_lists.specs.OwnPlaces.{ahead}
use Rattle.mapdb_rights.proofs.Live.FirstWalks.{FirstPassed}
use Rattle.mapdb_rights.proofs.Steady.ShownRuns.{Passed, Stays}
use Rattle.mapdb_rights.proofs.index.first_until.first_until_among.Given as goal

-- none of the records of the places that were passed comes before the one that was found, and all
-- of them go on up to the end
abbrev pub invariant-places : goal.invariant-places
invariant-places l = record {
  above : l.page < l.end;
  limit : l.end ≤ page_limit;
  top : is_first_space l.space ≡ true → Stays l.live l.space (cached_in l.changes.own.entries) l.page root l.end;
  kept : Passed l.live l.space (cached_in l.changes.own.entries) l.page l.own l.sweep l.end;
  found : FirstPassed (state_of_facts l.facts) l.changes.own.entries l.space l.page l.own l.end l.sweep l.first;
}

abbrev pub decreases-places : goal.decreases-places
decreases-places l = length (ahead l.own l.sweep)
