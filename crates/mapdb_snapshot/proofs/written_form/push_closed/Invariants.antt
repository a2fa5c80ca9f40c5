use Rattle.std.proofs.Common.{◌≡◌, ◌++◌, map, take}
use Rattle.mapdb_facts.specs.declared.operations.Op.TheVariants.{Closed}
use Rattle.mapdb_snapshot.proofs.written_form.push_closed.Given as goal

-- those so far are added
abbrev pub invariant-loop-space : goal.invariant-loop-space
invariant-loop-space l = l.ops.items ≡ l.initial.ops.items ++ map Closed (take l.space-index l.ended)
