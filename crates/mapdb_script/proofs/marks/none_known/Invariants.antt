use Rattle.mapdb_script.proofs.MarkLemmas.{NoneNoted}
use Rattle.mapdb_script.proofs.marks.none_known.Given as goal

-- nothing is noted in the rows so far
abbrev pub invariant-loop-copy : goal.invariant-loop-copy
invariant-loop-copy l = NoneNoted l.rows.items
