use Rattle.std.proofs.Common.{◌≡◌, true, drop}
use Rattle.mapdb_lists.specs.OwnPlaces.{own_meets, stands}
use Rattle.mapdb_lists.specs.declared.own_place.OwnPlace.{OwnPlace}
use Rattle.mapdb_lists.proofs.few_places.few_meet.Given as goal

-- each place that meets the pages is still to come
abbrev pub invariant-loop-place : goal.invariant-loop-place
invariant-loop-place l = (p : OwnPlace) → stands l.places p ≡ true → own_meets p l.first l.end ≡ true
    → stands (drop l.place-index l.places) p ≡ true
