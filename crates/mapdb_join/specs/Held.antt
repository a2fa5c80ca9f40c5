-- The entries that a map holds.
use Rattle.std.specs.Prelude.{List, [], ◌∷◌}
use Rattle.mapdb_join.specs.declared.entries.Entry.{Entry}
use Rattle.mapdb_join.specs.declared.entries.Entries.{Entries}
use Rattle.mapdb_join.specs.declared.entries.Entries.TheVariants.{One, Tree}

-- one entry, as the only one of a map
abbrev pub entry_of : {K V : Type 0} → Entry K V → List (K × V)
entry_of e = (e.key, e.value) ∷ []

-- the entries, in the order of their keys
abbrev pub entries_of : {K V : Type 0} → Entries K V → List (K × V)
entries_of (One e) = entry_of e
entries_of (Tree t) = t.entries
