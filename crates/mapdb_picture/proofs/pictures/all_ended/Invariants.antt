use Rattle.std.proofs.Common.{◌≡◌, ◌++◌}
use Rattle.std.specs.Prelude.{flat_map, string_bytes}
use Rattle.mapdb_snapshot.specs.Snapshot.{ended_of}
use Rattle.mapdb_picture.specs.Picture.{ended_line}
use Rattle.mapdb_picture.proofs.pictures.all_ended.Given as goal

-- the text with that of the spaces that are left
abbrev pub invariant-loop-space : goal.invariant-loop-space
invariant-loop-space l = string_bytes l.text ++ flat_map ended_line l.space-iterator ≡ flat_map ended_line (ended_of l.ops)
