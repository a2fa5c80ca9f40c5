use Rattle.std.proofs.Common.{◌≡◌, true, drop}
use Rattle.mapdb_lists.specs.declared.own_place.OwnPlace.{OwnPlace}
use Rattle.mapdb_lists.specs.OwnPlaces.{own_meets, stands}
use Rattle.mapdb_lists.proofs.few_places.next_of_few.Given as goal

-- each place ahead that meets the pages is still to come
abbrev pub invariant-places : goal.invariant-places
invariant-places l = (k : OwnPlace) → stands (drop l.sweep.passed l.places) k ≡ true → own_meets k l.first l.end ≡ true
    → stands (drop l.at l.places) k ≡ true
