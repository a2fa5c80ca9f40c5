-- How large an exchange may be.
use Rattle.std.specs.Prelude.{ℕ, ◌≤◌}
use Rattle.mapdb_exchange.specs.declared.limits.TheConstants.{MOST_SCRIPTS}
use Rattle.mapdb_exchange.specs.declared.limits.TheConstants.{MOST_CAPACITY}

-- so many scripts, over links of this capacity
abbrev pub IsCount : ℕ → ℕ → Type 0
IsCount count capacity = (1 ≤ count) × (count ≤ MOST_SCRIPTS) × (1 ≤ capacity)
    × (capacity ≤ MOST_CAPACITY)
