use Rattle.std.proofs.Common.{rules, ◌≡◌, ◌∙◌, ◌++◌, ◌∷◌, [], ap, inl, List}
use Rattle.std.specs.Prelude.{Err, Ok}
use Rattle.std.proofs.lemmas.Result.{err_from_is_err_and}
use Rattle.mapdb_node.specs.declared.events.NodeEvent.TheVariants.{Take}
use Rattle.mapdb_node.specs.declared.seats.Call.{Call}
use Rattle.mapdb_exchange.specs.Calls.{faults_in, held_in, taken_in}
use Rattle.mapdb_exchange.specs.declared.faults.WorkFault.{WorkFault}
use Rattle.mapdb_exchange.proofs.MoreCalls.{an_error, no_error, none_more, told_more, took_more}
use Rattle.mapdb_exchange.proofs.receivers.take_all.Goals as goal

pub loop-op-preserved : goal.loop-op-preserved
loop-op-preserved g c =
    let told = c.in_ok-reply.ensures.told in
    let taken : taken_in c.in_ok-reply.reply ≡ Ok tt = search rules in
    record {
      held = ap (λ (cs : List Call). held_in cs) told.1
          ∙ took_more (held_in c.args.seat.now.calls) c.args.ops.now c.loop-op.op-index c.op-item.result c.loop-op.seat.calls told.0 c.in_ok-reply.reply c.loop-op-test.true c.op-item.is c.loop-op.invariant.held taken;
      none_told = ap (λ (cs : List Call). faults_in cs) told.1
          ∙ none_more c.loop-op.seat.calls (Take c.op-item.result) told.0 c.in_ok-reply.reply (no_error (taken_in c.in_ok-reply.reply) tt taken) ∙ c.loop-op.invariant.none_told;
    }

pub returns-in_err-see_taken-clause-told : goal.returns-in_err-see_taken-clause-told
returns-in_err-see_taken-clause-told g c =
    let p = err_from_is_err_and c.from_residual-in_err-see_taken.result c.from_residual-in_err-see_taken.ensures.1 in
    let told = c.in_ok-reply.ensures.told in
    let fault = c.in_err-see_taken.field-0.0 in
    let failed : taken_in c.in_ok-reply.reply ≡ Err fault = search rules in
    rw (p.1, p.2) (inl (ap (λ (cs : List Call). faults_in cs) told.1
    ∙ told_more c.loop-op.seat.calls (Take c.op-item.result) told.0 c.in_ok-reply.reply fault (an_error (taken_in c.in_ok-reply.reply) fault failed)
    ∙ ap (λ (faults : List WorkFault). faults ++ fault ∷ []) c.loop-op.invariant.none_told))
