use Rattle.mapdb_join.proofs.Changes.{left_refused}
use Rattle.mapdb_join.proofs.Sides.{clash_first, clash_second}
use Rattle.mapdb_join.proofs.both.BothMerge.merge.Goals as goal

pub refusal-requires : goal.refusal-requires
refusal-requires g c =
    left_refused g.A.Merge.has g.A.Merge.excludes g.A.Merge.is_spot c.args.self.now.first c.args.other.now.first c.merge.new.self c.in-Err.fault
    (λ h. c.in_default.ensures.none (clash_first g.A.Merge.has g.B.Merge.has _ _ c.args.self.now c.args.other.now h))
    c.in-Err.ensures.err

pub refusal-requires-in-Err-merge : goal.refusal-requires-in-Err-merge
refusal-requires-in-Err-merge g c =
    left_refused g.B.Merge.has g.B.Merge.excludes g.B.Merge.is_spot c.args.self.now.second c.args.other.now.second c.merge-2.new.self c.in-Err-merge.fault
    (λ h. c.in_default.ensures.none (clash_second g.A.Merge.has g.B.Merge.has _ _ c.args.self.now c.args.other.now h))
    c.in-Err-merge.ensures.err
