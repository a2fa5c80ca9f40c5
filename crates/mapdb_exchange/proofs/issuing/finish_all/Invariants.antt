use Rattle.std.proofs.Common.{◌+◌, ◌≤◌, map, vec_capacity, vec_len}
use Rattle.std.specs.Vec.Iter.{into_iter_len}
use Rattle.mapdb_exchange.specs.Finishing.{AreFinished, sent_on}
use Rattle.mapdb_exchange.proofs.issuing.finish_all.Given as goal

abbrev pub invariant-loop-link : goal.invariant-loop-link
invariant-loop-link g l = record {
  finished : AreFinished (map sent_on l.yielded) l.ends.items;
  room : vec_len l.ends + into_iter_len l.link-iterator ≤ vec_capacity l.ends;
}
