use Rattle.std.proofs.Common.{sym}
use Rattle.mapdb_script.specs.Marks.{IsMark, mark_of_two}
use Rattle.mapdb_script.proofs.AnsweringLemmas.{at_there}
use Rattle.mapdb_script.proofs.MarkLemmas.{mark_found}
use Rattle.mapdb_script.proofs.answering.ScriptCluster.covered.Goals as goal

pub known_from-known-requires : goal.known_from-known-requires
known_from-known-requires c =
    let copies = c.args.self.now.copies.items in
    let one_there = (at_there copies c.args.at c.index-2.result.now c.requires.at c.index-2.ensures).1 in
    let two_there = (at_there copies c.args.other c.index.result.now c.requires.other c.index.ensures).1 in
    let so : IsMark copies (mark_of_two c.args.at c.args.other c.known_of-mark.result) = rw (c.known_of-mark.ensures, c.as_slice.ensures.value) (c.args.self.now.marked c.args.at c.args.other) in
    rw (c.ops-ops.ensures.ops) (so c.index-2.result.now c.index.result.now one_there two_there)

pub invariant_of-self : goal.invariant_of-self
invariant_of-self c =
    let copies = c.args.self.now.copies.items in
    let one_there = (at_there copies c.args.at c.index-2.result.now c.requires.at c.index-2.ensures).1 in
    let two_there = (at_there copies c.args.other c.index.result.now c.requires.other c.index.ensures).1 in
    let first = rw (c.ops-ops.ensures.ops) at c.known_from-known.ensures.known in
    record { sent = c.args.self.now.sent; marked = c.note.ensures copies c.args.self.now.marked (mark_found copies c.args.at c.args.other c.known_from-known.result c.index-2.result.now c.index.result.now one_there two_there first) }

pub returns-clause-covers : goal.returns-clause-covers
returns-clause-covers c =
    let copies = c.args.self.now.copies.items in
    let one_there = (at_there copies c.args.at c.index-2.result.now c.requires.at c.index-2.ensures).1 in
    let two_there = (at_there copies c.args.other c.index.result.now c.requires.other c.index.ensures).1 in
    (c.index-2.result.now, c.index.result.now, one_there, two_there, rw (← c.ops-ops.ensures.ops) (sym c.known_from-known.ensures.all))
