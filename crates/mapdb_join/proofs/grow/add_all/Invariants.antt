use Rattle.mapdb_join.proofs.Adding.{Added}
use Rattle.mapdb_join.proofs.grow.add_all.Given as goal

abbrev pub invariant-loop-key : goal.invariant-loop-key
invariant-loop-key g l = Added g.K.Ord.cmp l.fn.keys l.others l.keys l.key-iterator
