use Rattle.std.proofs.Common.{◌≡◌, ◌∙◌, List, Some, ap, length, refl, subst, sym, arith}
use Rattle.std.proofs.lemmas.Option.{slice_get_read}
use Rattle.std.specs.Prelude.{slice_get}
use Rattle.mapdb_facts.specs.declared.operations.Op.{Op}
use Rattle.mapdb_cluster.specs.Net.{Net, with_copy}
use Rattle.mapdb_cluster.specs.Steps.{Steps}
use Rattle.mapdb_cluster.specs.declared.events.Event.TheVariants as event
use Rattle.mapdb_cluster.proofs.Steps.Leaving.{deliver_left}
use Rattle.mapdb_cluster.proofs.Steps.StepEvents.{deliver_step}
use Rattle.mapdb_cluster.proofs.clusters.Cluster.deliver.Goals as goal

pub invariant_of-self : goal.invariant_of-self
invariant_of-self c =
    let net : Net = record { copies = c.self.inside.copies.items; messages = c.self.inside.messages.items } in
    let there : slice_get net.copies c.args.to ≡ Some c.index_mut.result.now = slice_get_read net.copies (length net.copies) c.args.to c.index_mut.result.now refl (omega (arith, c.if-to-len.false, c.len.ensures)) c.index_mut.ensures.value in
    let sent : slice_get net.messages c.args.message ≡ Some c.index.result.now = slice_get_read net.messages (length net.messages) c.args.message c.index.result.now refl (omega (arith, c.if-message-len.false, c.len-2.ensures)) c.index.ensures in
    let batch : slice_get net.messages c.args.message ≡ Some c.ops.result.now = sent ∙ ap (λ (ops : List Op). Some ops) (sym c.ops.ensures) in
    (deliver_left net c.self.invariant c.args.message c.args.to c.index_mut.result.now c.take.new.copy c.ops.result.now c.take.result there batch c.take.ensures).0

pub returns-clause-steps : goal.returns-clause-steps
returns-clause-steps c =
    let net : Net = record { copies = c.self.inside.copies.items; messages = c.self.inside.messages.items } in
    let there : slice_get net.copies c.args.to ≡ Some c.index_mut.result.now = slice_get_read net.copies (length net.copies) c.args.to c.index_mut.result.now refl (omega (arith, c.if-to-len.false, c.len.ensures)) c.index_mut.ensures.value in
    let sent : slice_get net.messages c.args.message ≡ Some c.index.result.now = slice_get_read net.messages (length net.messages) c.args.message c.index.result.now refl (omega (arith, c.if-message-len.false, c.len-2.ensures)) c.index.ensures in
    let batch : slice_get net.messages c.args.message ≡ Some c.ops.result.now = sent ∙ ap (λ (ops : List Op). Some ops) (sym c.ops.ensures) in
    subst (λ (n : Net). Steps n (event.Deliver c.args.message c.args.to) c.take.result (with_copy net c.args.to c.take.new.copy)) c.self.view_is
    (deliver_step net c.args.message c.args.to c.index_mut.result.now c.take.new.copy c.ops.result.now c.take.result there batch c.take.ensures)

pub returns-clause-trusted : goal.returns-clause-trusted
returns-clause-trusted c =
    let net : Net = record { copies = c.self.inside.copies.items; messages = c.self.inside.messages.items } in
    let there : slice_get net.copies c.args.to ≡ Some c.index_mut.result.now = slice_get_read net.copies (length net.copies) c.args.to c.index_mut.result.now refl (omega (arith, c.if-to-len.false, c.len.ensures)) c.index_mut.ensures.value in
    let sent : slice_get net.messages c.args.message ≡ Some c.index.result.now = slice_get_read net.messages (length net.messages) c.args.message c.index.result.now refl (omega (arith, c.if-message-len.false, c.len-2.ensures)) c.index.ensures in
    let batch : slice_get net.messages c.args.message ≡ Some c.ops.result.now = sent ∙ ap (λ (ops : List Op). Some ops) (sym c.ops.ensures) in
    (deliver_left net c.self.invariant c.args.message c.args.to c.index_mut.result.now c.take.new.copy c.ops.result.now c.take.result there batch c.take.ensures).1
