use Rattle.std.proofs.Common.{length}
use Rattle.mapdb_facts.specs.Facts.{state_of_facts}
use Rattle.mapdb_lists.specs.OwnPlaces.{ahead}
use Rattle.mapdb_rights.proofs.Live.FrameRights.{RightsPassed}
use Rattle.mapdb_rights.proofs.index.frame_rights.rights_among.Given as goal

-- the rights of the records of the places that were passed are known
abbrev pub invariant-places : goal.invariant-places
invariant-places l = RightsPassed (state_of_facts l.facts) l.changes.own.entries l.fn.space l.page l.shift l.own l.end l.sweep l.known

abbrev pub decreases-places : goal.decreases-places
decreases-places l = length (ahead l.own l.sweep)
