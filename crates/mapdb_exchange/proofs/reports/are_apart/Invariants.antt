use Rattle.std.proofs.Common.{length}
use Rattle.mapdb_exchange.specs.Reports.{NoneTwice}
use Rattle.mapdb_exchange.proofs.reports.are_apart.Given as goal

abbrev pub invariant-loop-seat : goal.invariant-loop-seat
invariant-loop-seat l = NoneTwice l.rest → NoneTwice l.seats

abbrev pub decreases-loop-seat : goal.decreases-loop-seat
decreases-loop-seat l = length l.rest
