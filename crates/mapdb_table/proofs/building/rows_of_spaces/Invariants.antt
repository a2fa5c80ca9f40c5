use Rattle.std.proofs.Common.{◌≡◌, ◌++◌, drop}
use Rattle.mapdb_table.specs.Table.{rows_of_spaces, space_rows}
use Rattle.mapdb_table.proofs.building.rows_of_spaces.Given as goal

-- the rows so far, and those of the spaces that are left
abbrev pub invariant-loop-space : goal.invariant-loop-space
invariant-loop-space l =
    l.rows.items ++ rows_of_spaces (space_rows l.copy.ops) (drop l.space-index l.spaces) ≡ rows_of_spaces (space_rows l.copy.ops) l.spaces
