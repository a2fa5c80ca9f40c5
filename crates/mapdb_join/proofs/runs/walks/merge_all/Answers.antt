use Rattle.std.proofs.Common.{arith}
use Rattle.mapdb_join.proofs.RunWalks.{merged_first, merged_last, merged_next, step_region}
use Rattle.mapdb_join.proofs.runs.walks.merge_all.Goals as goal

pub loop-index-init : goal.loop-index-init
loop-index-init c = merged_first c.args.mine.now.items c.args.theirs.now c.requires.runs

pub add_region-requires-clause-some : goal.add_region-requires-clause-some
add_region-requires-clause-some c =
    step_region c.args.theirs.now c.loop-index.index c.requires.others (omega arith) (omega arith)

pub loop-index-preserved : goal.loop-index-preserved
loop-index-preserved c =
    merged_next c.args.mine.now.items c.args.theirs.now c.loop-index.mine.items c.add_region.new.starts.items c.loop-index.index c.requires.others (omega arith) (omega arith)
    c.add_region.ensures.runs c.in_ok-add_region.ensures.over c.loop-index.invariant

pub returns-clause-ok : goal.returns-clause-ok
returns-clause-ok c =
    merged_last c.args.mine.now.items c.args.theirs.now c.loop-index.mine.items c.loop-index.index c.requires.others (omega arith) (λ k. omega arith) (omega arith) c.loop-index.invariant
