use Rattle.mapdb_join.proofs.Walking.{Shown}
use Rattle.mapdb_join.proofs.walks.prove_tree.Given as goal

abbrev pub invariant-loop-key : goal.invariant-loop-key
invariant-loop-key g l =
    Shown g.K.Ord.cmp g.K.Representable.is_value g.V.Representable.is_value l.map.entries l.key-iterator
