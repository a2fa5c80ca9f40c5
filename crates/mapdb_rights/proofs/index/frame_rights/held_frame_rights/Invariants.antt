use Rattle.std.proofs.Common.{take}
use Rattle.mapdb_facts.specs.Facts.{state_of_facts}
use Rattle.mapdb_rights.proofs.Live.HeldRights.{RightsHeld}
use Rattle.mapdb_rights.proofs.index.frame_rights.held_frame_rights.Given as goal

-- the rights of the records of the places that were passed are known
abbrev pub invariant-loop-place : goal.invariant-loop-place
invariant-loop-place l = RightsHeld (state_of_facts l.facts) l.changes.own.entries l.fn.space l.page l.shift (take l.place-index l.held) l.known
