use Rattle.mapdb_join.proofs.RunWalks.{CoversBefore}
use Rattle.mapdb_join.proofs.runs.walks.covers_all.Given as goal

abbrev pub invariant-loop-index : goal.invariant-loop-index
invariant-loop-index l = CoversBefore l.mine l.theirs l.index
