use Rattle.mapdb_join.specs.Held.{entries_of}
use Rattle.mapdb_join.proofs.Walking.{Parted}
use Rattle.mapdb_join.proofs.walks.first_in_tree.Given as goal

abbrev pub invariant-loop-key : goal.invariant-loop-key
invariant-loop-key g l =
    Parted g.K.Ord.cmp g.V.Merge.has g.V.Merge.excludes (entries_of l.map) l.other.entries l.key-iterator
