use Rattle.std.proofs.Common.{◌≡◌, take}
use Rattle.mapdb_lists.specs.declared.own_place.OwnPlace.{OwnPlace}
use Rattle.mapdb_lists.specs.OwnPlaces.{stands}
use Rattle.mapdb_lists.proofs.sorted_places.tree_of.Given as goal

-- the places so far
abbrev pub invariant-loop-place : goal.invariant-loop-place
invariant-loop-place l = (k : OwnPlace) → stands l.tree.keys k ≡ stands (take l.place-index l.places) k
