-- Lists of starts without those that change nothing.
use Rattle.std.specs.Prelude.{ℕ, ◌==◌, ◌+◌, ◌-◌, List, [], ◌∷◌, ◌++◌, take, drop, map, bit_or}
use Rattle.std.specs.Prelude.{if◌then◌else◌}
use Rattle.mapdb_join.specs.Runs.{count_below, last_bits}
use Rattle.mapdb_join.specs.declared.runs.starts.Start.{Start}

-- the start with the bits added
abbrev pub with_bits : ℕ → Start → Start
with_bits bits start = record { page = start.page; bits = bit_or start.bits bits }

-- the starts that change the bits, where those in front of the list are given
abbrev pub tidy : ℕ → List Start → List Start
tidy before [] = []
tidy before (start ∷ rest) = if start.bits == before then tidy before rest
    else start ∷ tidy start.bits rest

-- the starts from one page on that are below another
abbrev pub middle : List Start → ℕ → ℕ → List Start
middle xs low high = take (count_below xs high - count_below xs low) (drop (count_below xs low) xs)

-- the starts of one run, from a page up to before another
abbrev pub one_run : ℕ → ℕ → ℕ → List Start
one_run first end bits =
    record { page = first; bits = bits } ∷ record { page = end; bits = 0 } ∷ []

module _ (xs : List Start) (first end bits : ℕ) where
  -- the bits at the first page, and at the one behind the last
  abbrev pub at_first : ℕ
  at_first = last_bits 0 (take (count_below xs (first + 1)) xs)

  abbrev pub at_end : ℕ
  at_end = last_bits 0 (take (count_below xs (end + 1)) xs)

  abbrev pub front : List Start
  front = take (count_below xs first) xs

  abbrev pub back : List Start
  back = drop (count_below xs (end + 1)) xs

  abbrev pub changes : List Start
  changes = map (with_bits bits) (middle xs (first + 1) end)

  -- the starts of the region with the bits added, and the one behind it
  abbrev pub region : List Start
  region = record { page = first; bits = bit_or at_first bits } ∷ changes
      ++ record { page = end; bits = at_end } ∷ []
