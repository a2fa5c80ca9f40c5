use Rattle.std.proofs.Common.{length}
use Rattle.mapdb_facts.specs.Facts.{state_of_facts}
use Rattle.mapdb_lists.specs.OwnPlaces.{ahead}
use Rattle.mapdb_rights.proofs.Live.FirstWalks.{FirstPassed}
use Rattle.mapdb_rights.proofs.index.first_records.first_among.Given as goal

-- none of the records of the places that were passed comes before the one that was found
abbrev pub invariant-places : goal.invariant-places
invariant-places l = FirstPassed (state_of_facts l.facts) l.changes.own.entries l.space l.page l.own l.end l.sweep l.found

abbrev pub decreases-places : goal.decreases-places
decreases-places l = length (ahead l.own l.sweep)
