-- A place of an owner with its record's name, and the one number that stands for its order and
-- first page.
use Rattle.std.specs.Prelude.{◌≡◌, ℕ, ◌+◌, ◌*◌, ◌/◌, ◌%◌}
use Rattle.std.proofs.Math.Nat.{div-add-mod}
use Rattle.mapdb_facts.specs.declared.names.RecordId.{RecordId}
use Rattle.mapdb_lists.specs.declared.limits.TheConstants.{FIRST_LIMIT}

pub record OrderedPlace : Type 0 where
  pub order : ℕ
  pub first : ℕ
  pub id : RecordId

-- first pages lie below this
abbrev pub first_limit : ℕ
first_limit = FIRST_LIMIT

-- places are in order where these numbers are
abbrev pub key_of : ℕ → ℕ → ℕ
key_of order first = first_limit * order + first

-- the place of such a number, for a record
abbrev pub place_of_key : ℕ → RecordId → OrderedPlace
place_of_key key id = record { order = key / first_limit; first = key % first_limit; id = id }

-- a number says an order and a first page, and nothing else
pub key_comes_back : (key : ℕ) → key_of (key / first_limit) (key % first_limit) ≡ key
key_comes_back key = div-add-mod key first_limit
