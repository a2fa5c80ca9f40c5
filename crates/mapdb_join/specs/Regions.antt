-- Pages that lie one behind the other, and the bits that each of them has.
use Rattle.std.specs.Prelude.{ℕ, ◌≤◌, ◌<◌, ◌+◌, List, [], ◌∷◌}
use Rattle.mapdb_join.specs.declared.runs.bounds.TheConstants.{BITS_LIMIT, RUN_LIMIT}
use Rattle.mapdb_join.specs.declared.runs.starts.Start.{Start}

pub record PageRange : Type 0 where
  pub first : ℕ
  pub count : ℕ
  pub bits : ℕ

-- within the bounds
pub record IsPageRange (range : PageRange) : Type 0 where
  pub limit : range.first + range.count ≤ RUN_LIMIT
  pub small : range.bits < BITS_LIMIT

-- the runs that have these bits alone
abbrev pub starts_of : PageRange → List Start
starts_of range =
    record { page = range.first; bits = range.bits }
    ∷ record { page = range.first + range.count; bits = 0 } ∷ []
