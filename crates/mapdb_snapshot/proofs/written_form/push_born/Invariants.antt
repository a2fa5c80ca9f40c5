use Rattle.std.proofs.Common.{◌≡◌, ◌++◌, map, take}
use Rattle.mapdb_facts.specs.declared.operations.Op.TheVariants.{Born}
use Rattle.mapdb_snapshot.proofs.written_form.push_born.Given as goal

-- those so far are added
abbrev pub invariant-loop-mapping : goal.invariant-loop-mapping
invariant-loop-mapping l = l.ops.items ≡ l.initial.ops.items ++ map Born (take l.mapping-index l.records)
