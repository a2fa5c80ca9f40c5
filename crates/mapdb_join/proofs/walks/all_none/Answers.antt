use Rattle.mapdb_join.proofs.Held.{one_none}
use Rattle.mapdb_join.proofs.walks.all_none.Goals as goal

pub returns-in-One : goal.returns-in-One
returns-in-One g c =
    let h = one_none g.V.Merge.has g.met.K.Ord.total c.in-One.entry.key c.in-One.entry.value in
    rw c.in-One.is ((λ t. h.0 (c.is_none.ensures.0 t)), (λ n. c.is_none.ensures.1 (h.1 n)))

pub returns-in-Tree : goal.returns-in-Tree
returns-in-Tree g c = rw c.in-Tree.is c.none_in_tree.ensures
