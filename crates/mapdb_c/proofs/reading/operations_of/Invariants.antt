use Rattle.std.proofs.Common.{◌≡◌, drop}
use Rattle.mapdb_c.specs.Reading.{read_behind, operations_from}
use Rattle.mapdb_c.proofs.reading.operations_of.Given as goal

-- what is left, behind what was read, is all
abbrev pub invariant-loop-place : goal.invariant-loop-place
invariant-loop-place l = read_behind l.ops.items (operations_from l.place (drop l.place l.raws)) ≡ operations_from 0 l.raws
