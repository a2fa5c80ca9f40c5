use Rattle.std.proofs.Common.{drop}
use Rattle.mapdb_facts.specs.Names.{first_space}
use Rattle.mapdb_facts.specs.Records.{IsAmong}
use Rattle.mapdb_facts.specs.State.{HasAtom, Rec}
use Rattle.mapdb_facts.specs.declared.operations.Record.{Record}
use Rattle.mapdb_table.proofs.SpaceRows.{Gathered}
use Rattle.mapdb_table.proofs.spaces.gathered.Given as goal

-- the first space and those of the records so far, and which operations are left
abbrev pub invariant-loop-op : goal.invariant-loop-op
invariant-loop-op l = record {
  so_far : Gathered l.ops (drop l.op-index l.ops) l.spaces.keys;
  left : (r : Record) → HasAtom (drop l.op-index l.ops) (Rec r) → HasAtom l.ops (Rec r);
  first : IsAmong first_space l.spaces.keys;
}
