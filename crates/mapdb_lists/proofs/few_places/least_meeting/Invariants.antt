use Rattle.std.proofs.Common.{take}
use Rattle.mapdb_lists.specs.OwnPlaces.{IsFirstPlaceWhere, is_next}
use Rattle.mapdb_lists.proofs.few_places.least_meeting.Given as goal

-- the least of the places so far
abbrev pub invariant-loop-place : goal.invariant-loop-place
invariant-loop-place l = IsFirstPlaceWhere (is_next l.after l.first l.end) (take l.place-index l.places) l.found
