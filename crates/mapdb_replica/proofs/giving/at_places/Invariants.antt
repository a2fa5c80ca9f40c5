use Rattle.std.proofs.Common.{◌≡◌, ◌≤◌, length, take, vec_capacity, vec_len}
use Rattle.mapdb_replica.specs.Keeping.{ops_at}
use Rattle.mapdb_replica.proofs.giving.at_places.Given as goal

-- the operations at the places so far, and room for the others
abbrev pub invariant-loop-place : goal.invariant-loop-place
invariant-loop-place l = record {
  found : l.found.items ≡ ops_at l.ops (take l.place-index l.places);
  len : vec_len l.found ≡ l.place-index;
  room : length l.places ≤ vec_capacity l.found;
}
