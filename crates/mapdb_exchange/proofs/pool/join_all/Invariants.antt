use Rattle.std.proofs.Common.{◌≡◌, ◌+◌, ◌≤◌, length, vec_capacity, vec_len}
use Rattle.std.specs.Vec.Iter.{into_iter_len}
use Rattle.mapdb_exchange.proofs.pool.join_all.Given as goal

abbrev pub invariant-loop-handle : goal.invariant-loop-handle
invariant-loop-handle g l = record {
  count : length l.ended.items ≡ length l.yielded;
  room : vec_len l.ended + into_iter_len l.handle-iterator ≤ vec_capacity l.ended;
}
