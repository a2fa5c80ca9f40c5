use Rattle.mapdb_script.proofs.MarkLemmas.{none_are_marks, row_more}
use Rattle.mapdb_script.proofs.marks.none_known.Goals as goal

pub loop-copy-preserved : goal.loop-copy-preserved
loop-copy-preserved c = rw c.in_ok-push.ensures.items (row_more c.loop-copy.rows.items c.in_ok-vec.field-0 c.args.count c.loop-copy.invariant (c.in_ok-vec.ensures.items_if_clones_equal (λ y is. is)))

pub returns : goal.returns
returns c = λ copies. none_are_marks copies _ c.loop-copy.invariant
