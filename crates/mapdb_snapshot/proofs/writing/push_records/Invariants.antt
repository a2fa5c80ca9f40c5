use Rattle.std.proofs.Common.{◌≡◌, ◌++◌}
use Rattle.std.specs.Prelude.{map, string_bytes}
use Rattle.mapdb_facts.specs.Facts.{records_of_facts}
use Rattle.mapdb_snapshot.specs.OpenLists.{closed_with}
use Rattle.mapdb_snapshot.specs.Snapshot.{list_of, record_row}
use Rattle.serde_json.specs.Written.{compact_text}
use Rattle.mapdb_snapshot.proofs.writing.push_records.Given as goal

-- the text with the rows of the records that are left
abbrev pub invariant-loop-mapping : goal.invariant-loop-mapping
invariant-loop-mapping l =
    closed_with (string_bytes l.text) l.later (map record_row l.mapping-iterator)
    ≡ string_bytes l.fn.text ++ compact_text (list_of (map record_row (records_of_facts l.facts)))
