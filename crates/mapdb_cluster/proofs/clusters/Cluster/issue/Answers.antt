use Rattle.std.proofs.Common.{◌≡◌, Some, length, refl, subst, arith}
use Rattle.std.proofs.lemmas.Option.{slice_get_read}
use Rattle.std.specs.Prelude.{slice_get}
use Rattle.mapdb_cluster.specs.Net.{Net, with_copy}
use Rattle.mapdb_cluster.specs.Steps.{Steps}
use Rattle.mapdb_cluster.specs.declared.events.Event.TheVariants as event
use Rattle.mapdb_cluster.proofs.Steps.Leaving.{issue_left}
use Rattle.mapdb_cluster.proofs.Steps.StepEvents.{issue_step}
use Rattle.mapdb_cluster.proofs.clusters.Cluster.issue.Goals as goal

pub invariant_of-self : goal.invariant_of-self
invariant_of-self c =
    let net : Net = record { copies = c.self.inside.copies.items; messages = c.self.inside.messages.items } in
    let there : slice_get net.copies c.args.at ≡ Some c.index_mut.result.now = slice_get_read net.copies (length net.copies) c.args.at c.index_mut.result.now refl (omega (arith, c.if-at-len.false, c.len.ensures)) c.index_mut.ensures.value in
    (issue_left net c.self.invariant c.args.at c.index_mut.result.now c.issue.new.copy c.args.command.now c.issue.result there c.issue.ensures.commands c.issue.ensures.formed).0

pub returns-clause-steps : goal.returns-clause-steps
returns-clause-steps c =
    let net : Net = record { copies = c.self.inside.copies.items; messages = c.self.inside.messages.items } in
    let there : slice_get net.copies c.args.at ≡ Some c.index_mut.result.now = slice_get_read net.copies (length net.copies) c.args.at c.index_mut.result.now refl (omega (arith, c.if-at-len.false, c.len.ensures)) c.index_mut.ensures.value in
    subst (λ (n : Net). Steps n (event.Issue c.args.at c.args.command.now) c.issue.result (with_copy net c.args.at c.issue.new.copy)) c.self.view_is
    (issue_step net c.args.at c.index_mut.result.now c.issue.new.copy c.args.command.now c.issue.result there c.issue.ensures.commands)

pub returns-clause-trusted : goal.returns-clause-trusted
returns-clause-trusted c =
    let net : Net = record { copies = c.self.inside.copies.items; messages = c.self.inside.messages.items } in
    let there : slice_get net.copies c.args.at ≡ Some c.index_mut.result.now = slice_get_read net.copies (length net.copies) c.args.at c.index_mut.result.now refl (omega (arith, c.if-at-len.false, c.len.ensures)) c.index_mut.ensures.value in
    (issue_left net c.self.invariant c.args.at c.index_mut.result.now c.issue.new.copy c.args.command.now c.issue.result there c.issue.ensures.commands c.issue.ensures.formed).1
