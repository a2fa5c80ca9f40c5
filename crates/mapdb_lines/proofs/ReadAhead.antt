-- What is ahead was asked of a reader at once.
use Rattle.std.proofs.Common.{◌≡◌, ◌≤◌, ℕ, ◌+◌, List, ◌++◌, length, arith, ap, sym, ◌∙◌}
use Rattle.std.proofs.lemmas.List.{length-append}
use Rattle.mapdb_lines.specs.Limits.{line_limit, read_ahead}
use Rattle.mapdb_lines.specs.Lines.{before, beyond}
use Rattle.mapdb_lines.specs.Gathering.{ahead_in}
use Rattle.mapdb_lines.specs.Reading.{ahead_of}
use Rattle.mapdb_lines.specs.declared.gathering.Gathering.{Gathering}
use Rattle.mapdb_lines.specs.declared.reading.Reading.{Reading}
use Rattle.mapdb_lines.proofs.LineLemmas.{before-beyond, length_range}

pub few_in : (g : Gathering) → length (ahead_in g) ≤ read_ahead
few_in g = let size = length_range g.piece.items g.start g.end (omega (arith, g.within, g.room, g.piece.ok.0)) in omega (arith, g.within, g.room)

pub few_ahead : (r : Reading) → length (ahead_of r) ≤ read_ahead
few_ahead r = few_in r.gathering

pub few_beyond : (bytes : List ℕ) → length bytes ≤ read_ahead → length (beyond 10 bytes) ≤ read_ahead
few_beyond bytes few =
    let both = sym (ap length (before-beyond 10 bytes)) ∙ length-append (before 10 bytes) (beyond 10 bytes) in
    omega arith

-- a line that is no longer than it may be, and what is ahead of it
pub few_bytes : (bytes line ahead : List ℕ) → bytes ≡ line ++ ahead → length line ≤ line_limit → length ahead ≤ read_ahead → length bytes ≤ line_limit + read_ahead
few_bytes bytes line ahead is short few =
    let both = ap length is ∙ length-append line ahead in
    omega arith

pub few_before : (bytes : List ℕ) → length bytes ≤ read_ahead → length (before 10 bytes) ≤ line_limit
few_before bytes few =
    let both = sym (ap length (before-beyond 10 bytes)) ∙ length-append (before 10 bytes) (beyond 10 bytes) in
    omega arith
