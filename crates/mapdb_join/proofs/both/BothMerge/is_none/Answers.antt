use Rattle.std.proofs.Common.{◌∙◌, sym}
use Rattle.std.proofs.lemmas.Bool.{true≢false}
use Rattle.mapdb_join.proofs.Sides.{none_both}
use Rattle.mapdb_join.proofs.both.BothMerge.is_none.Goals as goal

pub returns-then-is_none : goal.returns-then-is_none
returns-then-is_none g c =
    let h = none_both g.A.Merge.has g.B.Merge.has c.args.self.now in
    (λ t. h.0 (c.is_none.ensures.0 c.if-is_none.true, c.is_none-then-is_none.ensures.0 t), λ i. c.is_none-then-is_none.ensures.1 (h.1 i).1)

pub returns-else-is_none : goal.returns-else-is_none
returns-else-is_none g c =
    let h = none_both g.A.Merge.has g.B.Merge.has c.args.self.now in
    (λ t. absurd (true≢false (sym t ∙ c.if-is_none.false)), λ i. c.is_none.ensures.1 (h.1 i).0)
