use Rattle.std.proofs.Common.{take}
use Rattle.std.specs.List.{flat_map}
use Rattle.mapdb_facts.specs.Facts.{records_of_facts, state_of_facts}
use Rattle.mapdb_facts.specs.declared.operations.Record.{Record}
use Rattle.mapdb_replica.specs.Issue.{holder_of}
use Rattle.mapdb_replica.specs.LeftOut.{Adds}
use Rattle.mapdb_replica.specs.Unmap.{holder_cuts}
use Rattle.mapdb_replica.proofs.holder_cuts.add_record_cuts.Given as goal

-- what is lost by the records so far is found, but for some of what is known
abbrev pub invariant-loop-mapping : goal.invariant-loop-mapping
invariant-loop-mapping l =
    Adds (state_of_facts l.facts) (flat_map (λ (r : Record). holder_cuts (records_of_facts l.facts) l.page l.rights l.flush (holder_of r)) (take l.mapping-index l.held))
    l.fn.found.items l.found.items
