use Rattle.std.proofs.Common.{◌≡◌, ◌∙◌, All, List, ap, arith, inl, length, refl, subst, sym}
use Rattle.std.proofs.Math.ListN.{length-set}
use Rattle.std.proofs.lemmas.List.{with_items_is}
use Rattle.std.specs.Vec.{with_items}
use Rattle.mapdb_replica.specs.Replica.{Log}
use Rattle.mapdb_script.specs.Marks.{AreMarks, IsMark, mark_of_two}
use Rattle.mapdb_script.specs.Sendings.{IsSent, messages_of}
use Rattle.mapdb_script.proofs.MarkLemmas.{marks_stay, takes_grow}
use Rattle.mapdb_script.proofs.SendingLemmas.{mark_after, messages_stay, sent_stay}
use Rattle.mapdb_script.proofs.answering.ScriptCluster.take.Goals as goal

pub take_sending-taken-requires-clause-held : goal.take_sending-taken-requires-clause-held
take_sending-taken-requires-clause-held c = rw (c.as_mut_slice.ensures.value, c.known_of-mark.ensures, c.as_slice.ensures.value) (c.args.self.now.marked c.args.at c.args.sending.sender)

pub invariant_of-self : goal.invariant_of-self
invariant_of-self c =
    let copies = c.args.self.now.copies in
    let new = c.take_sending-taken.new.copies in
    let sendings = c.args.self.now.messages.items in
    let taken = rw c.as_mut_slice.ensures.value at c.take_sending-taken.ensures in
    let many : length new ≡ length copies.items = ap length taken.kept ∙ length-set copies.items c.args.at taken.after in
    let whole : (with_items copies new).items ≡ new = with_items_is copies new (omega (arith, many, copies.ok.0)) in
    let grows = takes_grow _ _ c.take_sending-taken.result taken.one taken.after taken.takes.takes in
    let marks = c.args.self.now.marks.items in
    let so : IsMark copies.items (mark_of_two c.args.at c.args.sending.sender c.known_of-mark.result) =
    rw (c.known_of-mark.ensures, c.as_slice.ensures.value) (c.args.self.now.marked c.args.at c.args.sending.sender) in
    let marked = subst (λ (logs : List Log). AreMarks logs marks) (sym taken.kept) (marks_stay copies.items marks c.args.at taken.one taken.after taken.there grows c.args.self.now.marked) in
    let known = mark_after copies.items new c.args.at c.known_of-mark.result c.args.sending c.take_sending-taken.result c.requires.sent so taken in
    let after = c.note.ensures new marked (rw (c.known_after-known.ensures, c.is_ok.ensures.value) known) in
    let sent = sent_stay copies.items c.args.at taken.one taken.after taken.there grows sendings c.args.self.now.sent in
    record {
      marked = subst (λ (logs : List Log). AreMarks logs c.note.new.rows.items) (sym whole) after;
      sent = subst (λ (logs : List Log). All (IsSent logs) sendings) (sym (whole ∙ taken.kept)) sent;
    }

pub returns : goal.returns
returns c =
    let copies = c.args.self.now.copies in
    let new = c.take_sending-taken.new.copies in
    let sendings = c.args.self.now.messages.items in
    let taken = rw c.as_mut_slice.ensures.value at c.take_sending-taken.ensures in
    let many : length new ≡ length copies.items = ap length taken.kept ∙ length-set copies.items c.args.at taken.after in
    let whole : (with_items copies new).items ≡ new = with_items_is copies new (omega (arith, many, copies.ok.0)) in
    let grows = takes_grow _ _ c.take_sending-taken.result taken.one taken.after taken.takes.takes in
    let stay : messages_of new sendings ≡ messages_of copies.items sendings =
    ap (λ (logs : List Log). messages_of logs sendings) taken.kept ∙ messages_stay copies.items c.args.at taken.one taken.after taken.there grows sendings c.args.self.now.sent in
    record { taken = c.take_sending-taken.result; takes = rw whole taken; kept = rw (whole, stay) refl; told = inl c.taken.ensures }
