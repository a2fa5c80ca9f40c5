use Rattle.std.proofs.Common.{◌≡◌, ◌+◌, ◌≤◌, ◌++◌, map, vec_capacity, vec_len}
use Rattle.std.specs.Vec.Iter.{into_iter_len}
use Rattle.mapdb_exchange.specs.Faults.{listed, missing}
use Rattle.mapdb_exchange.specs.Workers.{faults_of}
use Rattle.mapdb_exchange.proofs.pool.seats_of.Given as goal

abbrev pub invariant-loop-seat : goal.invariant-loop-seat
invariant-loop-seat l = record {
  faults : l.faults.items ≡ listed (missing l.fn.ends.unstarted) ++ faults_of l.yielded;
  seats : l.seats.items ≡ map (λ e. e.seat) l.yielded;
  room : vec_len l.seats + into_iter_len l.seat-iterator ≤ vec_capacity l.seats;
}
