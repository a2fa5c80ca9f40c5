use Rattle.std.proofs.Common.{◌≡◌, ℕ, take}
use Rattle.mapdb_lists.specs.FewChanges.{listed_rights, shown}
use Rattle.mapdb_lists.specs.OwnChanges.{mapped_change}
use Rattle.mapdb_lists.proofs.change_lists.map_of.Given as goal

-- the changes so far
abbrev pub invariant-loop-next : goal.invariant-loop-next
invariant-loop-next l = (page : ℕ) → mapped_change l.map page ≡ shown l.shift (listed_rights (take l.next-index l.list) page)
