use Rattle.std.proofs.Common.{◌≡◌, ◌≤◌, vec_capacity, vec_len}
use Rattle.mapdb_exchange.proofs.exchange.next_seats.Given as goal

abbrev pub invariant-loop : goal.invariant-loop
invariant-loop l = record {
  count : vec_len l.own ≡ l.counter;
  room : l.count ≤ vec_capacity l.own;
}
