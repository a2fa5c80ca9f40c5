use Rattle.std.proofs.Common.{◌≡◌, Some, length, refl, subst, arith}
use Rattle.std.proofs.lemmas.Option.{slice_get_read}
use Rattle.std.specs.Prelude.{slice_get}
use Rattle.mapdb_cluster.specs.Net.{Net}
use Rattle.mapdb_cluster.specs.Steps.{Steps}
use Rattle.mapdb_cluster.specs.declared.events.Event.TheVariants as event
use Rattle.mapdb_cluster.proofs.Steps.Leaving.{sent_left, sent_steps}
use Rattle.mapdb_cluster.proofs.clusters.Cluster.send.Goals as goal

pub invariant_of-self : goal.invariant_of-self
invariant_of-self c =
    let net : Net = record { copies = c.self.inside.copies.items; messages = c.self.inside.messages.items } in
    let there : slice_get net.copies c.args.from ≡ Some c.index.result.now = slice_get_read net.copies (length net.copies) c.args.from c.index.result.now refl (omega (arith, c.if-from-len.false, c.len.ensures)) c.index.ensures in
    sent_left net c.self.invariant c.args.from c.args.first c.args.end c.index.result.now c.send.result c.send.new.messages.items there c.send.ensures

pub returns-clause-steps : goal.returns-clause-steps
returns-clause-steps c =
    let net : Net = record { copies = c.self.inside.copies.items; messages = c.self.inside.messages.items } in
    let there : slice_get net.copies c.args.from ≡ Some c.index.result.now = slice_get_read net.copies (length net.copies) c.args.from c.index.result.now refl (omega (arith, c.if-from-len.false, c.len.ensures)) c.index.ensures in
    subst (λ (n : Net). Steps n (event.Send c.args.from c.args.first c.args.end) c.sent_reply.result (record { copies = c.self.inside.copies.items; messages = c.send.new.messages.items })) c.self.view_is
    (rw c.sent_reply.ensures (sent_steps net c.args.from c.args.first c.args.end c.index.result.now c.send.result c.send.new.messages.items there c.send.ensures))
