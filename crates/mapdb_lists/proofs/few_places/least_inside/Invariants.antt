use Rattle.std.proofs.Common.{take}
use Rattle.std.specs.BTreeMap.Range.{is_from_start}
use Rattle.mapdb_lists.specs.OwnPlaces.{IsFirstPlaceWhere, place_cmp}
use Rattle.mapdb_lists.proofs.few_places.least_inside.Given as goal

-- the least of the places so far
abbrev pub invariant-loop-place : goal.invariant-loop-place
invariant-loop-place l = IsFirstPlaceWhere (is_from_start place_cmp l.start) (take l.place-index l.places) l.found
