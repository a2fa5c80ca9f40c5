use Rattle.std.proofs.Common.{◌∙◌}
use Rattle.mapdb_join.proofs.Adding.{added_next}
use Rattle.mapdb_join.proofs.grow.add_all.Goals as goal

pub loop-key-preserved : goal.loop-key-preserved
loop-key-preserved g c =
    let laws = g.met.K in
    added_next laws.Ord.total (λ a b h. laws.Exact.exact a b (laws.Ord.matches_eq a b ∙ h)) c.in-Some.key.now c.next.new.self c.in_ok-insert.ensures.updates (rw c.in-Some.ensures.steps at c.loop-key.invariant)
