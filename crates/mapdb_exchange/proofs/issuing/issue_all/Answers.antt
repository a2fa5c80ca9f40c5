use Rattle.std.proofs.Common.{arith, rules, ◌≡◌, ◌∙◌, ◌++◌, ◌∷◌, [], ap, inl, inr, List, map}
use Rattle.std.specs.Prelude.{Err, Ok}
use Rattle.std.proofs.lemmas.Result.{err_from_is_err_and}
use Rattle.mapdb_node.specs.declared.events.NodeEvent.TheVariants.{Issue}
use Rattle.std.proofs.lemmas.Grind.{common_steps}
use Rattle.std.specs.Global.{Vec}
use Rattle.mapdb_node.specs.Seated.{Seated}
use Rattle.mapdb_node.specs.declared.seats.Call.{Call}
use Rattle.mapdb_exchange.specs.Calls.{IsSendingFault, commands_in, faults_in, issued_in, place_after}
use Rattle.mapdb_exchange.specs.Ends.{Sending}
use Rattle.mapdb_exchange.specs.Finishing.{sent_on}
use Rattle.mapdb_exchange.specs.declared.faults.WorkFault.{WorkFault}
use Rattle.mapdb_exchange.proofs.MoreCalls.{an_error, issued_more, no_error, none_more, place_fault, told_after, told_more}
use Rattle.mapdb_exchange.proofs.issuing.issue_all.Goals as goal
use Rattle.mapdb_exchange.proofs.issuing.issue_all.Goals.{then-count-gt0+in_ok-ops+in_ok-send_all+in_ok-first, else-count-gt0}

pub loop-command-preserved : goal.loop-command-preserved
loop-command-preserved g c =
    let told = c.in_ok-reply.ensures.told in
    let more = ap (λ (cs : List Call). commands_in cs) told.1
    ∙ issued_more (commands_in c.args.seat.now.calls) c.args.script.now c.loop-command.command-index c.command-item.result c.loop-command.seat.calls told.0 c.in_ok-reply.reply c.loop-command-test.true c.command-item.is c.loop-command.invariant.commands in
    let issued : issued_in c.in_ok-reply.reply ≡ Ok c.in_ok-count.count = search rules in
    let none = ap (λ (cs : List Call). faults_in cs) told.1
    ∙ none_more c.loop-command.seat.calls (Issue c.command-item.result) told.0 c.in_ok-reply.reply (no_error (issued_in c.in_ok-reply.reply) c.in_ok-count.count issued) ∙ c.loop-command.invariant.none_told in
    elim c.if-count-gt0.branch [
      | then-count-gt0+in_ok-ops+in_ok-send_all+in_ok-first w ↦ record {
        links = grind (arith, common_steps);
        commands = ap (λ (s : Seated). commands_in s.calls) w.seat-is ∙ (w.in_ok-ops.ensures.commands ∙ more);
        none_told = ap (λ (s : Seated). faults_in s.calls) w.seat-is ∙ (w.in_ok-ops.ensures.none_told ∙ none);
      }
      | else-count-gt0 w ↦ record {
        links = ap (λ (v : Vec Sending). map sent_on v.items) w.links-is ∙ c.loop-command.invariant.links;
        commands = ap (λ (s : Seated). commands_in s.calls) w.seat-is ∙ more;
        none_told = ap (λ (s : Seated). faults_in s.calls) w.seat-is ∙ none;
      }
    ]

pub returns-in_err-count-clause-told : goal.returns-in_err-count-clause-told
returns-in_err-count-clause-told g c =
    let p = err_from_is_err_and c.from_residual-in_err-count.result c.from_residual-in_err-count.ensures.1 in
    let told = c.in_ok-reply.ensures.told in
    let fault = c.in_err-count.field-0.0 in
    let failed : issued_in c.in_ok-reply.reply ≡ Err fault = search rules in
    rw (p.1, p.2) (inr (inl (ap (λ (cs : List Call). faults_in cs) told.1
    ∙ told_more c.loop-command.seat.calls (Issue c.command-item.result) told.0 c.in_ok-reply.reply fault (an_error (issued_in c.in_ok-reply.reply) fault failed)
    ∙ ap (λ (faults : List WorkFault). faults ++ fault ∷ []) c.loop-command.invariant.none_told)))

pub returns-in_err-ops-clause-told : goal.returns-in_err-ops-clause-told
returns-in_err-ops-clause-told g c =
    let p = err_from_is_err_and c.from_residual-in_err-ops.result c.from_residual-in_err-ops.ensures.1 in
    let told = c.in_ok-reply.ensures.told in
    let issued : issued_in c.in_ok-reply.reply ≡ Ok c.in_ok-count.count = search rules in
    let none = ap (λ (cs : List Call). faults_in cs) told.1
    ∙ none_more c.loop-command.seat.calls (Issue c.command-item.result) told.0 c.in_ok-reply.reply (no_error (issued_in c.in_ok-reply.reply) c.in_ok-count.count issued) ∙ c.loop-command.invariant.none_told in
    rw (p.1, p.2) (inr (told_after IsSendingFault c.args.seat.now.calls c.call_at.new.seat.calls c.own_ops.new.seat.calls c.in_err-ops.field-0.0 none c.in_err-ops.ensures.told))

pub returns-in_err-send_all-clause-told : goal.returns-in_err-send_all-clause-told
returns-in_err-send_all-clause-told g c =
    let p = err_from_is_err_and c.from_residual-in_err-send_all.result c.from_residual-in_err-send_all.ensures.1 in
    let told = c.in_ok-reply.ensures.told in
    let issued : issued_in c.in_ok-reply.reply ≡ Ok c.in_ok-count.count = search rules in
    let none = ap (λ (cs : List Call). faults_in cs) told.1
    ∙ none_more c.loop-command.seat.calls (Issue c.command-item.result) told.0 c.in_ok-reply.reply (no_error (issued_in c.in_ok-reply.reply) c.in_ok-count.count issued) ∙ c.loop-command.invariant.none_told in
    rw (p.1, p.2) (inr (inr (
      c.in_ok-ops.ensures.none_told ∙ none,
      elim c.in_err-send_all.ensures.fault [
        | inl link ↦ inr (inl link)
        | inr memory ↦ inr (inr (inl memory))
      ],
    )))

pub returns-in_err-first-clause-told : goal.returns-in_err-first-clause-told
returns-in_err-first-clause-told g c =
    let p = err_from_is_err_and c.from_residual-in_err-first.result c.from_residual-in_err-first.ensures.1 in
    let told = c.in_ok-reply.ensures.told in
    let issued : issued_in c.in_ok-reply.reply ≡ Ok c.in_ok-count.count = search rules in
    let none = ap (λ (cs : List Call). faults_in cs) told.1
    ∙ none_more c.loop-command.seat.calls (Issue c.command-item.result) told.0 c.in_ok-reply.reply (no_error (issued_in c.in_ok-reply.reply) c.in_ok-count.count issued) ∙ c.loop-command.invariant.none_told in
    let behind : place_after c.loop-command.first c.in_ok-count.count ≡ Err c.in_err-first.field-0.0 = search rules in
    rw (p.1, p.2) (inr (inr (c.in_ok-ops.ensures.none_told ∙ none, inl (place_fault c.loop-command.first c.in_ok-count.count c.in_err-first.field-0.0 behind))))
