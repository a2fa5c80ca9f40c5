-- What is gathered of a line, and what stands in the piece that was read.
use Rattle.std.specs.Prelude.{ℕ, List, slice_range}
use Rattle.mapdb_lines.specs.declared.gathering.Gathering.{Gathering}
use Rattle.mapdb_lines.specs.declared.gathering.Span.{Span}

-- the bytes that were read and stand in no line yet
abbrev pub ahead_in : Gathering → List ℕ
ahead_in g = slice_range g.piece.items g.start g.end

-- the line that was gathered from pieces
abbrev pub gathered : Gathering → List ℕ
gathered g = g.line.items

-- what stands in the piece at a span
abbrev pub part_of : Gathering → Span → List ℕ
part_of g span = slice_range g.piece.items span.first span.end
