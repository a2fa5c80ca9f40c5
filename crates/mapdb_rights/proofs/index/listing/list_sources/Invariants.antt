use Rattle.std.specs.Prelude.{◌⊎◌}
use Rattle.mapdb_facts.specs.Facts.{state_of_facts}
use Rattle.mapdb_facts.specs.Looking.{Holds}
use Rattle.mapdb_facts.specs.Records.{IsAmong}
use Rattle.mapdb_facts.specs.declared.operations.Record.{Record}
use Rattle.mapdb_lists.specs.Listing.{AllAligned}
use Rattle.mapdb_rights.specs.HeldPlaces.{AreOfHeld, HasSource}
use Rattle.mapdb_rights.proofs.index.listing.list_sources.Given as goal

-- each held record is left or listed; what is left is held
abbrev pub invariant-loop-mapping : goal.invariant-loop-mapping
invariant-loop-mapping l = record {
  aligned : AllAligned l.listed;
  left : (r : Record) → IsAmong r l.mapping-iterator → Holds (state_of_facts l.facts) r;
  places : (r : Record) → Holds (state_of_facts l.facts) r → IsAmong r l.mapping-iterator ⊎ HasSource l.listed r;
  held : AreOfHeld (state_of_facts l.facts) l.listed;
}
