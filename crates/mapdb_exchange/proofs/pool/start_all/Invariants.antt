use Rattle.std.proofs.Common.{◌≡◌, ◌+◌, ◌≤◌, length, vec_capacity, vec_len}
use Rattle.std.specs.Vec.Iter.{into_iter_len}
use Rattle.mapdb_exchange.proofs.pool.start_all.Given as goal

abbrev pub invariant-loop-post : goal.invariant-loop-post
invariant-loop-post g l = record {
  count : length l.handles.items ≡ length l.yielded;
  room : vec_len l.handles + into_iter_len l.post-iterator ≤ vec_capacity l.handles;
}
