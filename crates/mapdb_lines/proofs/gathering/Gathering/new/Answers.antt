use Rattle.std.proofs.Common.{refl, arith}
use Rattle.mapdb_lines.specs.Lines.{before, beyond}
use Rattle.mapdb_lines.proofs.gathering.Gathering.new.Goals as goal

pub invariant_of-result : goal.invariant_of-result
unfolding before beyond
invariant_of-result c = record { ordered = omega arith; within = omega arith; room = c.in_ok-piece.ensures.len; ended = (refl, refl, omega arith) }
