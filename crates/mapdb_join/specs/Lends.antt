-- What a map ends as, once a `&mut` into it has ended.
use Rattle.std.specs.Prelude.{◌≡◌, Option, IsSome}
use Rattle.std.specs.Borrow.{Fml, RattleType, MutBor, LendsSo}
use Rattle.std.specs.Map.{lookup, set_value}
use Rattle.std.specs.BTreeMap.{is_at}
use Rattle.std.specs.BTreeMap.Lent.{OrdMembers}
use Rattle.mapdb_join.specs.Entries.{IsChangedAt}
use Rattle.mapdb_join.specs.declared.map.JoinMap.{JoinMap}
use Rattle.mapdb_join.specs.contracts.map.JoinMap.{the_row}

module _ (K V : RattleType) (g : OrdMembers K.Denot) where
  -- the map's type, as the logic holds it
  abbrev pub map_row : RattleType
  map_row =
      the_row K V (record { cmp = g.cmp }) (record { eq = g.eq })
      (record { partial_cmp = g.partial_cmp })

  -- the last value written through r is the one under the key and nothing else changes;
  -- at `None` the map stays as it is
  abbrev pub lends_value :
      MutBor (JoinMap K.Denot V.Denot) → K.Denot → Option (MutBor V.Denot) → Fml
  lends_value m k r = LendsSo map_row V m r
      (λ n w. (n ≡ set_value (is_at (g.cmp k)) m.now w)
      × (IsSome (lookup (is_at (g.cmp k)) m.now) → IsChangedAt g.cmp m.now n k w))
      (λ n. n ≡ m.now)
