use Rattle.std.proofs.Common.{◌≡◌, ◌++◌}
use Rattle.std.specs.Prelude.{map, string_bytes}
use Rattle.mapdb_facts.specs.Facts.{state_of_facts}
use Rattle.mapdb_snapshot.specs.Cutting.{cut_names, cuts_of_names}
use Rattle.mapdb_snapshot.specs.OpenLists.{closed_with}
use Rattle.mapdb_snapshot.specs.Snapshot.{cut_row, list_of}
use Rattle.serde_json.specs.Written.{compact_text}
use Rattle.mapdb_snapshot.proofs.writing.push_cuts.Given as goal

-- the text with the rows of the names that are left
abbrev pub invariant-loop-id : goal.invariant-loop-id
invariant-loop-id l =
    closed_with (string_bytes l.text) l.later (map cut_row (cuts_of_names (state_of_facts l.facts) l.id-iterator))
    ≡ string_bytes l.fn.text ++ compact_text (list_of (map cut_row (cuts_of_names (state_of_facts l.facts) (cut_names l.ops))))
