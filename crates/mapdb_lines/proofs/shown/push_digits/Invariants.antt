use Rattle.std.proofs.Common.{◌≡◌, ◌++◌, string_bytes}
use Rattle.mapdb_lines.specs.Shown.{last_digits}
use Rattle.mapdb_lines.proofs.shown.push_digits.Given as goal

-- the text with the digits that are left
abbrev pub invariant-loop-place : goal.invariant-loop-place
invariant-loop-place l = string_bytes l.text ++ last_digits l.place l.number ≡ string_bytes l.fn.text ++ last_digits l.count l.number
