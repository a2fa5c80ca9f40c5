use Rattle.mapdb_join.proofs.Adding.{none_iff_empty}
use Rattle.mapdb_join.proofs.grow.GrowMerge.is_none.Goals as goal

pub returns : goal.returns
returns g c =
    let h = none_iff_empty g.met.K.Ord.total c.args.self.now in
    let r = rw c.self.view_is at c.is_empty.ensures in
    (λ t. h.0 (r.0 t), λ n. r.1 (h.1 n))
