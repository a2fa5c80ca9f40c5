use Rattle.std.proofs.Common.{◌≡◌, ◌≤◌, length, map, take, vec_capacity}
use Rattle.mapdb_exchange.proofs.exchange.numbers_of.Given as goal

abbrev pub invariant-loop-seat : goal.invariant-loop-seat
invariant-loop-seat l = record {
  numbers : l.numbers.items ≡ map (λ s. s.number) (take l.seat-index l.seats);
  room : length l.seats ≤ vec_capacity l.numbers;
}
