-- Empty copies, one processor after the other.
use Rattle.std.proofs.Common.{◌≡◌, ℕ, ◌+◌, [], ◌∷◌, ◌++◌, map, arith}
use Rattle.std.proofs.lemmas.List.FromFn.{map-range_with_len_more}
use Rattle.std.specs.List.{range_with_len}
use Rattle.mapdb_replica.specs.Replica.{empty}

-- the copy of one processor more
pub one_copy_more : (n : ℕ) → map empty (range_with_len 0 (n + 1)) ≡ map empty (range_with_len 0 n) ++ empty n ∷ []
one_copy_more n = map-range_with_len_more empty 0 n n (omega arith)
