-- The atoms of a byte: the numbers of its bits.
use Rattle.std.specs.Prelude.{ℕ, Bool, nat_eq, ◌<◌, ◌^◌}
use Rattle.std.specs.Int.{bit_at}

-- whether n has the bit i
abbrev pub has_bit : ℕ → ℕ → Bool
has_bit n i = nat_eq (bit_at n i) 1

-- n is the bits of a byte
abbrev pub IsByte : ℕ → Type 0
IsByte n = n < 2 ^ 8
