use Rattle.std.proofs.Common.{◌≡◌, ◌++◌, drop, take}
use Rattle.mapdb_snapshot.proofs.scanning.bytes.Given as goal

-- the bytes so far
abbrev pub invariant-loop-one : goal.invariant-loop-one
invariant-loop-one l = drop l.fn.at l.text ≡ take l.one-index l.wanted ++ drop l.at l.text
