use Rattle.std.proofs.Common.{◌≡◌, ◌++◌, map, take}
use Rattle.mapdb_facts.specs.declared.operations.Op.TheVariants.{Cut}
use Rattle.mapdb_snapshot.proofs.written_form.push_cut.Given as goal

-- those so far are added
abbrev pub invariant-loop-cut : goal.invariant-loop-cut
invariant-loop-cut l = l.ops.items ≡ l.initial.ops.items ++ map Cut (take l.cut-index l.cuts)
