use Rattle.std.proofs.Common.{◌≡◌, ◌++◌, take}
use Rattle.mapdb_facts.specs.Facts.{records_of_facts, state_of_facts}
use Rattle.mapdb_facts.specs.Records.{greatest_number}
use Rattle.mapdb_replica.specs.Fitting.{AllFitting}
use Rattle.mapdb_replica.specs.Issue.{first_piece}
use Rattle.mapdb_replica.proofs.Maps.Gathering.{list_of, pieces_of}
use Rattle.mapdb_replica.proofs.pieces.pieces_among.Given as goal

-- the pieces of the root and of the records so far are found
abbrev pub invariant-loop-mapping : goal.invariant-loop-mapping
invariant-loop-mapping l = record {
  found : l.found.items ≡ list_of (first_piece (state_of_facts l.facts) l.sender l.source l.rights)
      ++ pieces_of (state_of_facts l.facts) l.sender l.source l.rights (take l.mapping-index l.held);
  fitting : AllFitting l.source (greatest_number (records_of_facts l.facts)) l.found.items;
}
