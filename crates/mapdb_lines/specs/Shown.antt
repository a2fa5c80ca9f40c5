-- How names, spaces, pages and frames are written.
use Rattle.std.specs.Prelude.{◌==◌, if◌then◌else◌, ℕ, zero, suc, ◌-◌, ◌*◌, ◌/◌, ◌%◌, ◌^◌, List, []}
use Rattle.std.specs.Prelude.{◌∷◌, ◌++◌, false, length, replicate, codes, decimal}
use Rattle.std.specs.Fmt.{digits, digit_glyph}
use Rattle.mapdb_facts.specs.declared.names.RecordId.{RecordId}
use Rattle.mapdb_facts.specs.declared.names.Space.{Space}

-- the name of a record
abbrev pub name_text : RecordId → List ℕ
name_text id = decimal id.number ++ (codes "." ++ decimal id.processor)

-- a space: its number, and behind a point its version, where that is not the first
abbrev pub space_text : Space → List ℕ
space_text space =
    if space.version == 0 then decimal space.number else decimal space.number
    ++ (codes "." ++ decimal space.version)

-- a page or a frame: at least five hexadecimal digits in lower case
abbrev pub frame_text : ℕ → List ℕ
frame_text n = replicate (5 - length (digits 16 false n)) 48 ++ digits 16 false n

-- the last `count` hexadecimal digits of a number, in lower case
unfoldable pub last_digits : ℕ → ℕ → List ℕ
last_digits zero n = []
last_digits (suc count) n = digit_glyph false (n / 2 ^ (4 * count) % 16) ∷ last_digits count n
