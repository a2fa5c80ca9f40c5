use Rattle.std.proofs.Common.{◌≡◌, ℕ, ◌<◌, false, get_or}
use Rattle.mapdb_lists.specs.declared.few_changes.PageRights.{PageRights}
use Rattle.mapdb_lists.proofs.ChangeLemmas.SomeRights.{counts}
use Rattle.mapdb_lists.proofs.change_lists.any_rights.Given as goal

-- none of those that were passed counts
abbrev pub invariant-loop-next : goal.invariant-loop-next
invariant-loop-next l = (k : ℕ) (d : PageRights) → k < l.next-index → counts (get_or l.list k d) ≡ false
