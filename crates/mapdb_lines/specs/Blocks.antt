-- What waits to be written, and how a text passes through what waits.
use Rattle.std.specs.Prelude.{◌≡◌, ℕ, List, ◌++◌, Option, slice_range}
use Rattle.std.specs.Io.KnownBytes.{Appends}
use Rattle.mapdb_lines.specs.declared.blocks.Block.{Block}

-- the bytes that wait
abbrev pub waiting : Block → List ℕ
waiting block = slice_range block.piece.items block.start block.end

-- what waited, and then the text, is what was written, and then what waits
abbrev pub Passes : Option (List ℕ) → Option (List ℕ) → List ℕ → List ℕ → List ℕ → Type 0
Passes old new before after text = (written : List ℕ) × Appends old new written
    × (before ++ text ≡ written ++ after)
