-- Rows that are as long as can be.
use Rattle.std.specs.Prelude.{◌≡◌, ◌+◌, List, [], ◌∷◌}
use Rattle.mapdb_table.specs.declared.rows.TableRow.{TableRow}

-- the row goes on in the later one: at the next page of the space, from the next frame, and with
-- the same rights
abbrev pub GoesOnIn : TableRow → TableRow → Type 0
GoesOnIn row later = (row.space ≡ later.space) × (row.page + row.count ≡ later.page)
    × (row.frame + row.count ≡ later.frame) × (row.rights ≡ later.rights)

-- the row does not go on in the first of those behind it
abbrev pub EndsThere : TableRow → List TableRow → Type 0
EndsThere row [] = Unit {0}
EndsThere row (later ∷ rest) = GoesOnIn row later → ⊥

-- no row goes on in the next one
abbrev pub AreMaximal : List TableRow → Type 0
AreMaximal [] = Unit {0}
AreMaximal (row ∷ rows) = EndsThere row rows × AreMaximal rows
