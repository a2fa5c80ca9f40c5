-- What the entries of a map end as, once a `&mut` into one of them has ended.
use Rattle.std.specs.Prelude.{◌≡◌, List, Option, IsSome}
use Rattle.std.specs.Borrow.{Fml, RattleType, MutBor, LendsSo}
use Rattle.std.specs.Map.{lookup, set_value}
use Rattle.std.specs.declared.cmp.Ordering.{Ordering}
use Rattle.std.specs.BTreeMap.{is_at}
use Rattle.std.specs.BTreeMap.Lent.{OrdMembers}
use Rattle.mapdb_join.specs.Entries.{IsChangedAt}
use Rattle.mapdb_join.specs.Held.{entry_of, entries_of}
use Rattle.mapdb_join.specs.declared.entries.Entry.{Entry}
use Rattle.mapdb_join.specs.declared.entries.Entries.{Entries}
use Rattle.mapdb_join.specs.contracts.entries.Entry as entry
use Rattle.mapdb_join.specs.contracts.entries.Entries as entries

-- new has w under the key, if old has the key, and is old otherwise
pub record IsWritten {K V : Type 0} (cmp : K → K → Ordering)
    (old new : List (K × V)) (k : K) (w : V) : Type 0 where
  pub entries : new ≡ set_value (is_at (cmp k)) old w
  pub changed : IsSome (lookup (is_at (cmp k)) old) → IsChangedAt cmp old new k w

module _ (K V : RattleType) (g : OrdMembers K.Denot) where
  -- the last value written through r is the entry's, where the key is its own
  abbrev pub lends_own :
      MutBor (Entry K.Denot V.Denot) → K.Denot → Option (MutBor V.Denot) → Fml
  lends_own e k r = LendsSo (entry.the_row K V) V e r
      (λ n w. IsWritten g.cmp (entry_of e.now) (entry_of n) k w) (λ n. entry_of n ≡ entry_of e.now)

  -- the type of the entries, as the logic holds it
  abbrev pub entries_row : RattleType
  entries_row =
      entries.the_row K V (record { cmp = g.cmp }) (record { eq = g.eq })
      (record { partial_cmp = g.partial_cmp })

  -- the last value written through r is the one under the key and nothing else changes;
  -- at `None` the entries stay as they are
  abbrev pub lends_held :
      MutBor (Entries K.Denot V.Denot) → K.Denot → Option (MutBor V.Denot) → Fml
  lends_held m k r = LendsSo entries_row V m r
      (λ n w. IsWritten g.cmp (entries_of m.now) (entries_of n) k w)
      (λ n. entries_of n ≡ entries_of m.now)
