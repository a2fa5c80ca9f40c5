use Rattle.std.proofs.Common.{◌≡◌, ◌≤◌, ◌++◌}
use Rattle.mapdb_facts.specs.Facts.{records_of_facts, state_of_facts}
use Rattle.mapdb_facts.specs.Records.{greatest_number}
use Rattle.mapdb_replica.specs.Fitting.{AllFitting}
use Rattle.mapdb_replica.specs.Issue.{pieces}
use Rattle.mapdb_replica.proofs.Maps.Gathering.{pieces_of}
use Rattle.mapdb_replica.proofs.pieces.pieces_of_all.Given as goal

-- what was found, and what is still to be found
abbrev pub invariant-loop-mapping : goal.invariant-loop-mapping
invariant-loop-mapping l = record {
  found : l.found.items ++ pieces_of (state_of_facts l.facts) l.sender l.source l.rights l.mapping-iterator
      ≡ pieces (state_of_facts l.facts) (records_of_facts l.facts) l.sender l.source l.rights;
  left : greatest_number l.mapping-iterator ≤ greatest_number (records_of_facts l.facts);
  fitting : AllFitting l.source (greatest_number (records_of_facts l.facts)) l.found.items;
}
