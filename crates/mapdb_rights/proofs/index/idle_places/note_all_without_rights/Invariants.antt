use Rattle.std.specs.Prelude.{◌⊎◌}
use Rattle.mapdb_facts.specs.Facts.{state_of_facts}
use Rattle.mapdb_facts.specs.Looking.{Holds}
use Rattle.mapdb_facts.specs.Records.{IsAmong}
use Rattle.mapdb_facts.specs.declared.operations.Record.{Record}
use Rattle.mapdb_lists.specs.Changes.{cached_in}
use Rattle.mapdb_rights.specs.IdlePlaces.{IsNoted}
use Rattle.mapdb_rights.proofs.index.idle_places.note_all_without_rights.Given as goal

-- each held record is left, or noted where it has no right
abbrev pub invariant-loop-mapping : goal.invariant-loop-mapping
invariant-loop-mapping l = (r : Record) → Holds (state_of_facts l.facts) r
    → IsAmong r l.mapping-iterator ⊎ IsNoted (cached_in l.changes.own.entries) l.idle.items r.id
