use Rattle.std.proofs.Common.{rules, ◌≡◌, ◌∙◌, ◌++◌, ◌∷◌, [], ap, inl, inr, refl, List}
use Rattle.std.specs.Prelude.{Err, Ok}
use Rattle.std.proofs.lemmas.Result.{err_from_is_err_and}
use Rattle.mapdb_node.specs.declared.events.NodeEvent.TheVariants.{OwnAt}
use Rattle.mapdb_node.specs.declared.seats.Call.{Call}
use Rattle.mapdb_exchange.specs.Calls.{faults_in, own_in}
use Rattle.mapdb_exchange.specs.declared.faults.WorkFault.{WorkFault}
use Rattle.mapdb_exchange.proofs.MoreCalls.{an_error, own_told_none, told_more}
use Rattle.mapdb_exchange.proofs.issuing.own_ops.Goals as goal

pub returns-in_err-own_in-clause-told : goal.returns-in_err-own_in-clause-told
returns-in_err-own_in-clause-told g c =
    let p = err_from_is_err_and c.from_residual-in_err-own_in.result c.from_residual-in_err-own_in.ensures.1 in
    let told = c.in_ok-reply.ensures.told in
    let fault = c.in_err-own_in.field-0.0 in
    let failed : own_in c.in_ok-reply.reply ≡ Err fault = search rules in
    rw (p.1, p.2) (inl (ap (λ (cs : List Call). faults_in cs) told.1
    ∙ told_more c.loop-step.seat.calls (OwnAt c.in_ok-place.place) told.0 c.in_ok-reply.reply fault (an_error (own_in c.in_ok-reply.reply) fault failed)
    ∙ ap (λ (faults : List WorkFault). faults ++ fault ∷ []) c.loop-step.invariant.none_told))

pub returns-in_err-push-clause-told : goal.returns-in_err-push-clause-told
returns-in_err-push-clause-told g c =
    let p = err_from_is_err_and c.from_residual-in_err-push.result c.from_residual-in_err-push.ensures.1 in
    let told = c.in_ok-reply.ensures.told in
    let own : own_in c.in_ok-reply.reply ≡ Ok c.in_ok-own_in.field-0 = search rules in
    rw (p.1, p.2) (inr (
      ap (λ (cs : List Call). faults_in cs) told.1
          ∙ own_told_none c.loop-step.seat.calls c.in_ok-place.place told.0 c.in_ok-reply.reply c.in_ok-own_in.field-0 own
          ∙ c.loop-step.invariant.none_told,
      inr (inr (inl refl)),
    ))
