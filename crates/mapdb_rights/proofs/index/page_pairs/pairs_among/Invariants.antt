use Rattle.std.proofs.Common.{length}
use Rattle.mapdb_facts.specs.Facts.{state_of_facts}
use Rattle.mapdb_lists.specs.OwnPlaces.{ahead}
use Rattle.mapdb_rights.proofs.Live.PagePairs.{PairsPassed}
use Rattle.mapdb_rights.proofs.index.page_pairs.pairs_among.Given as goal

-- the pairs of the records of the places that were passed are there
abbrev pub invariant-places : goal.invariant-places
invariant-places l = PairsPassed (state_of_facts l.facts) l.fn.space l.page l.own l.end l.sweep l.pairs.items

abbrev pub decreases-places : goal.decreases-places
decreases-places l = length (ahead l.own l.sweep)
