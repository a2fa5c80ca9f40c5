use Rattle.mapdb_join.specs.Held.{entries_of}
use Rattle.mapdb_join.proofs.Walking.{Covered}
use Rattle.mapdb_join.proofs.walks.covers_tree.Given as goal

abbrev pub invariant-loop-key : goal.invariant-loop-key
invariant-loop-key g l =
    Covered g.K.Ord.cmp g.V.Merge.has (entries_of l.map) l.other.entries l.key-iterator
