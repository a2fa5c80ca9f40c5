-- Records of which an Unmap has nothing left to revoke.
use Rattle.std.specs.Prelude.{◌≡◌, ℕ, true}
use Rattle.mapdb_fpage.specs.Place.{holds}
use Rattle.mapdb_fpage.specs.declared.right_sets.Right.{Right}
use Rattle.mapdb_facts.specs.Looking.{Holds}
use Rattle.mapdb_facts.specs.State.{State}
use Rattle.mapdb_facts.specs.declared.operations.Record.{Record}

-- each right is taken from the record at each of its pages
abbrev pub IsRevoked : State → Record → Type 0
IsRevoked S r = (page : ℕ) → holds r.place page ≡ true → (right : Right)
    → S.is_cut r.id page right ≡ true

-- so it is from the record, and from each child of it
pub record IsRevokedBelow (S : State) (r : Record) : Type 0 where
  pub own : IsRevoked S r
  pub children : (c : Record) → Holds S c → c.parent ≡ r.id → IsRevoked S c
