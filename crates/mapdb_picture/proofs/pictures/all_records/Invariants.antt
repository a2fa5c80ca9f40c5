use Rattle.std.proofs.Common.{◌≡◌, ◌++◌}
use Rattle.std.specs.Prelude.{flat_map, string_bytes}
use Rattle.mapdb_facts.specs.Facts.{records_of_facts, state_of_facts}
use Rattle.mapdb_picture.specs.Picture.{record_lines}
use Rattle.mapdb_picture.proofs.pictures.all_records.Given as goal

-- the text with that of the records that are left
abbrev pub invariant-loop-mapping : goal.invariant-loop-mapping
invariant-loop-mapping l =
    string_bytes l.text ++ flat_map (record_lines (state_of_facts l.facts)) l.mapping-iterator
    ≡ flat_map (record_lines (state_of_facts l.facts)) (records_of_facts l.facts)
