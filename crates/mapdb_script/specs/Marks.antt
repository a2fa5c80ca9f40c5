-- How much of each other's lists copies are known to hold.
use Rattle.std.specs.Prelude.{◌≡◌, ◌≤◌, ℕ, List, None, Option, Some, get_or, length, slice_get}
use Rattle.std.specs.Prelude.{take, true}
use Rattle.std.specs.Global.{Vec}
use Rattle.mapdb_facts.specs.declared.operations.Op.{Op}
use Rattle.mapdb_replica.specs.Agreement.{knows_all}
use Rattle.mapdb_replica.specs.Replica.{Log}
use Rattle.mapdb_script.specs.declared.marks.Mark.{Mark}

-- nothing of so many first operations of a list is new to what is held
pub record HoldsFirst (held : List Op) (count : ℕ) (ops : List Op) : Type 0 where
  pub within : count ≤ length ops
  pub known : knows_all held (take count ops) ≡ true

-- so it is of the copies that a mark names
abbrev pub IsMark : List Log → Mark → Type 0
IsMark copies mark = (one other : Log) → slice_get copies mark.at ≡ Some one
    → slice_get copies mark.other ≡ Some other → HoldsFirst one.ops mark.known other.ops

-- a mark of two copies
abbrev pub mark_of_two : ℕ → ℕ → ℕ → Mark
mark_of_two at other known = record { at = at; other = other; known = known }

-- what is noted of a copy and another one, by its row
abbrev pub known_in : Option (Vec ℕ) → ℕ → ℕ
known_in None other = 0
known_in (Some row) other = get_or row.items other 0

-- and by the rows of all copies
abbrev pub known_at : List (Vec ℕ) → ℕ → ℕ → ℕ
known_at rows at other = known_in (slice_get rows at) other

-- what is noted of any two copies is so
abbrev pub AreMarks : List Log → List (Vec ℕ) → Type 0
AreMarks copies rows = (at other : ℕ)
    → IsMark copies (mark_of_two at other (known_at rows at other))
