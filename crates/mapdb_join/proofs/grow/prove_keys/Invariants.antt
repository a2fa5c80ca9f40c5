use Rattle.mapdb_join.proofs.Adding.{ShownKeys}
use Rattle.mapdb_join.proofs.grow.prove_keys.Given as goal

abbrev pub invariant-loop-key : goal.invariant-loop-key
invariant-loop-key g l = ShownKeys g.K.Ord.cmp g.K.Representable.is_value l.keys.keys l.key-iterator
