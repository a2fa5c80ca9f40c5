use Rattle.std.proofs.Common.{◌≡◌, ◌++◌, drop}
use Rattle.std.specs.Prelude.{map, string_bytes}
use Rattle.mapdb_snapshot.specs.OpenLists.{closed_with}
use Rattle.mapdb_snapshot.specs.Snapshot.{row, whole_number}
use Rattle.serde_json.specs.Written.{compact_text}
use Rattle.mapdb_snapshot.proofs.rows.push_numbers.Given as goal

-- the text with the numbers that are left
abbrev pub invariant-loop-number : goal.invariant-loop-number
invariant-loop-number l =
    closed_with (string_bytes l.text) l.later (map whole_number (drop l.number-index l.numbers))
    ≡ string_bytes l.fn.text ++ compact_text (row l.numbers)
