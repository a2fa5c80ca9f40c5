use Rattle.std.proofs.Common.{◌≡◌, ◌++◌, drop, map, take}
use Rattle.mapdb_c.proofs.filling.write.Given as goal

-- the first so many are written
abbrev pub invariant-loop-place : goal.invariant-loop-place
invariant-loop-place g l = l.room ≡ map g.T.ToRaw.raw (take l.place l.list) ++ drop l.place l.initial.room
