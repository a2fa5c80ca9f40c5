use Rattle.std.proofs.Common.{length, ◌-◌}
use Rattle.mapdb_script.specs.Marks.{HoldsFirst}
use Rattle.mapdb_script.proofs.marks.known_from.Given as goal

-- those so far are held
abbrev pub invariant-known : goal.invariant-known
invariant-known l = HoldsFirst l.copy.ops l.known l.ops

abbrev pub decreases-known : goal.decreases-known
decreases-known l = length l.ops - l.known
