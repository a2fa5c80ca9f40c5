use Rattle.std.proofs.Common.{◌≡◌, ◌++◌}
use Rattle.std.specs.Prelude.{map, string_bytes}
use Rattle.mapdb_snapshot.specs.OpenLists.{closed_with}
use Rattle.mapdb_snapshot.specs.Snapshot.{ended_of, ended_row, list_of}
use Rattle.serde_json.specs.Written.{compact_text}
use Rattle.mapdb_snapshot.proofs.writing.push_ended.Given as goal

-- the text with the rows of the spaces that are left
abbrev pub invariant-loop-space : goal.invariant-loop-space
invariant-loop-space l =
    closed_with (string_bytes l.text) l.later (map ended_row l.space-iterator)
    ≡ string_bytes l.fn.text ++ compact_text (list_of (map ended_row (ended_of l.ops)))
