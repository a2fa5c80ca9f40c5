use Rattle.mapdb_join.proofs.RunWalks.{Merged}
use Rattle.mapdb_join.proofs.runs.walks.merge_all.Given as goal

abbrev pub invariant-loop-index : goal.invariant-loop-index
invariant-loop-index l = Merged l.fn.mine.items l.theirs l.mine.items l.index
