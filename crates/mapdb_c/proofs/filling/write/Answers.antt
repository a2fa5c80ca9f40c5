use Rattle.std.proofs.Common.{◌∙◌, ap, arith}
use Rattle.mapdb_c.proofs.Fitting.{written_next}
use Rattle.mapdb_c.proofs.filling.write.Goals as goal

pub loop-place-preserved : goal.loop-place-preserved
loop-place-preserved g c =
    written_next _ _ _ _ _ _ _ _ _ (omega arith) c.requires c.loop-place.invariant (c.to_raw.ensures ∙ ap g.T.ToRaw.raw c.index-list-place.is)
