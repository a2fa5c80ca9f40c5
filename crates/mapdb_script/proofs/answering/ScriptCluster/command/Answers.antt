use Rattle.std.proofs.Common.{ap, refl}
use Rattle.mapdb_script.specs.States.{beside, seen_of}
use Rattle.mapdb_script.proofs.AnsweringLemmas.{at_nowhere, at_there, command_accepted, command_nowhere, command_refused}
use Rattle.mapdb_replica.specs.Commands.{command_outcome}
use Rattle.mapdb_script.proofs.MarkLemmas.{issues_grow, marks_stay}
use Rattle.mapdb_script.proofs.SendingLemmas.{messages_stay, sent_stay}
use Rattle.mapdb_script.proofs.answering.ScriptCluster.command.Goals as goal

pub returns-in_default : goal.returns-in_default
returns-in_default c accepted =
    let cluster = beside c.args.self.now accepted in
    ap seen_of (command_nowhere cluster c.args.at c.args.command.now
    (at_nowhere cluster.net.copies c.args.at _ c.in_ok-at.field-0 c.in_ok-at.ensures.none c.in_ok-at.ensures.some refl c.in_default.is))

pub returns-in-Err : goal.returns-in-Err
returns-in-Err c accepted =
    let there = rw c.in-Some.is at c.in_ok-at.ensures.there in
    let copies = c.args.self.now.copies.items in
    let old = c.index_mut.result.now in
    let found = (at_there copies c.in-Some.at old there.1 c.index_mut.ensures.value).1 in
    let grows = issues_grow (command_outcome old c.args.command.now) c.apply.result old c.apply.new.self c.apply.ensures.applies.1 in
    rw (← there.0, messages_stay copies c.in-Some.at old c.apply.new.self found grows c.args.self.now.messages.items c.args.self.now.sent) (command_refused (beside c.args.self.now accepted) c.in-Some.at c.index_mut.result.now c.apply.new.self
    c.args.command.now c.in-Err.fault _ there.1 c.index_mut.ensures.value c.in-Err.ensures.applies c.refused.ensures)

pub returns-in-Ok : goal.returns-in-Ok
returns-in-Ok c accepted =
    let there = rw c.in-Some.is at c.in_ok-at.ensures.there in
    let copies = c.args.self.now.copies.items in
    let old = c.index_mut.result.now in
    let found = (at_there copies c.in-Some.at old there.1 c.index_mut.ensures.value).1 in
    let grows = issues_grow (command_outcome old c.args.command.now) c.apply.result old c.apply.new.self c.apply.ensures.applies.1 in
    rw (← there.0, messages_stay copies c.in-Some.at old c.apply.new.self found grows c.args.self.now.messages.items c.args.self.now.sent)
    (ap seen_of (command_accepted (beside c.args.self.now accepted) c.in-Some.at c.index_mut.result.now c.apply.new.self
    c.args.command.now c.in-Ok.applied there.1 c.index_mut.ensures.value c.in-Ok.ensures.applies))

pub invariant_of-self : goal.invariant_of-self
invariant_of-self c =
    let there = rw c.in-Some.is at c.in_ok-at.ensures.there in
    let copies = c.args.self.now.copies.items in
    let old = c.index_mut.result.now in
    let found = (at_there copies c.in-Some.at old there.1 c.index_mut.ensures.value).1 in
    let grows = issues_grow (command_outcome old c.args.command.now) c.apply.result old c.apply.new.self c.apply.ensures.applies.1 in
    record {
      marked = marks_stay copies c.args.self.now.marks.items c.in-Some.at old c.apply.new.self found grows c.args.self.now.marked;
      sent = sent_stay copies c.in-Some.at old c.apply.new.self found grows c.args.self.now.messages.items c.args.self.now.sent;
    }
