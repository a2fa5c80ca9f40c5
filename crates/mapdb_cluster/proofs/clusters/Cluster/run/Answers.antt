use Rattle.std.proofs.Common.{◌≡◌, ◌∙◌, ◌++◌, ◌∷◌, [], List, ap, false, subst, sym}
use Rattle.mapdb_replica.specs.Memory.{ends}
use Rattle.mapdb_cluster.specs.Honest.{AllTrusted}
use Rattle.mapdb_cluster.specs.Steps.{memory_told}
use Rattle.mapdb_cluster.specs.declared.events.Reply.{Reply}
use Rattle.mapdb_cluster.proofs.Steps.RunSteps.{net-next, replies-next, trusted_more}
use Rattle.mapdb_cluster.proofs.clusters.Cluster.run.Goals as goal

pub loop-done-preserved : goal.loop-done-preserved
loop-done-preserved c =
    let lasted : ends (memory_told c.step-reply.result) ≡ false = sym c.ran_out_of_memory.ensures ∙ c.if-ran_out_of_memory.false in
    let more : c.push_reserved.new.self.items ≡ c.loop-done.replies.items ++ c.step-reply.result ∷ [] =
    c.push_reserved.ensures.items ∙ ap (λ (rs : List Reply). rs ++ c.step-reply.result ∷ []) c.reserve.ensures.items in
    record {
      trusted = subst AllTrusted (sym more) (trusted_more c.loop-done.replies.items c.step-reply.result c.loop-done.invariant.trusted c.step-reply.ensures.trusted);
      stands = net-next c.args.self.now c.loop-done.self c.step-reply.new.self c.args.events.now c.loop-done.done c.index-events-done.result c.step-reply.result c.loop-done-test.true c.index-events-done.is c.loop-done.invariant.stands c.step-reply.ensures.steps lasted;
      told = replies-next c.args.self.now c.loop-done.self c.step-reply.new.self c.args.events.now c.loop-done.done c.index-events-done.result c.step-reply.result c.loop-done-test.true c.index-events-done.is c.loop-done.invariant.stands c.step-reply.ensures.steps lasted c.loop-done.replies.items c.push_reserved.new.self.items c.loop-done.invariant.told more;
    }
