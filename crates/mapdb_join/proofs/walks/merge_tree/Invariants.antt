use Rattle.mapdb_join.specs.Held.{entries_of}
use Rattle.mapdb_join.proofs.Keyed.{Walked}
use Rattle.mapdb_join.proofs.walks.merge_tree.Given as goal

abbrev pub invariant-loop-key : goal.invariant-loop-key
invariant-loop-key g l =
    Walked g.K.Ord.cmp g.V.Merge.has (entries_of l.fn.map) l.other.entries (entries_of l.map) l.key-iterator
