use Rattle.std.specs.Prelude.{[]}
use Rattle.mapdb_join.proofs.Walking.{Covered}
use Rattle.mapdb_join.proofs.walks.none_in_tree.Given as goal

-- what is left covers none so far: the empty map covers all but the rest
abbrev pub invariant-loop-value : goal.invariant-loop-value
invariant-loop-value g l = Covered g.K.Ord.cmp g.V.Merge.has [] l.map.entries l.value-iterator
