use Rattle.std.proofs.Common.{◌≡◌, ◌≤◌, ◌+◌, ◌-◌, false, length, vec_len}
use Rattle.std.specs.Io.KnownBytes.{Consumes}
use Rattle.mapdb_lines.specs.Limits.{line_limit, read_ahead}
use Rattle.mapdb_program.proofs.snapshots.read_all.Given as goal

-- what was read so far stands in the input, which is little longer than it may be, and no read has
-- failed or shown an end
abbrev pub invariant-pieces : goal.invariant-pieces
invariant-pieces g l = record {
  consumed : Consumes (g.R.Source.left l.fn.reader) (g.R.Source.left l.reader) l.input.items;
  near : length l.input.items ≤ line_limit + read_ahead;
  works : g.R.Source.has_failed l.reader ≡ false;
  once : g.R.Source.has_ended l.reader ≡ g.R.Source.has_ended l.fn.reader;
  room : vec_len l.piece ≡ 65536;
}

abbrev pub decreases-pieces : goal.decreases-pieces
decreases-pieces g l = (line_limit + 1) - vec_len l.input
