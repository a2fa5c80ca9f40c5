use Rattle.std.proofs.Common.{◌∙◌, sym}
use Rattle.std.proofs.lemmas.Bool.{true≢false}
use Rattle.mapdb_join.proofs.Sides.{includes_both}
use Rattle.mapdb_join.proofs.both.BothMerge.covers.Goals as goal

pub returns-then-covers : goal.returns-then-covers
returns-then-covers g c =
    let h = includes_both g.A.Merge.has g.B.Merge.has c.args.self.now c.args.other.now in
    (λ t. h.0 (c.covers.ensures.0 c.if-covers.true, c.covers-then-covers.ensures.0 t), λ i. c.covers-then-covers.ensures.1 (h.1 i).1)

pub returns-else-covers : goal.returns-else-covers
returns-else-covers g c =
    let h = includes_both g.A.Merge.has g.B.Merge.has c.args.self.now c.args.other.now in
    (λ t. absurd (true≢false (sym t ∙ c.if-covers.false)), λ i. c.covers.ensures.1 (h.1 i).0)
