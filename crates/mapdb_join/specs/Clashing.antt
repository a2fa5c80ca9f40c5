-- Where an entry clashes with a map.
use Rattle.std.specs.Prelude.{◌≡◌, Bool, true, List, Some}
use Rattle.std.specs.Map.{lookup}
use Rattle.std.specs.declared.cmp.Ordering.{Ordering}
use Rattle.std.specs.BTreeMap.{is_at}
use Rattle.mapdb_join.specs.Atoms.{Clashes}
use Rattle.mapdb_join.specs.Entries.{has_under}

-- no atom under the key excludes one of the value
abbrev pub NoneApart :
    {K V A : Type 0} (cmp : K → K → Ordering) (has : V → A → Bool) (excludes : A → A → Type 0) →
    List (K × V) → K → V → Type 0
NoneApart {A = A} cmp has excludes es k v =
    (x y : A) → has_under cmp has es (k, x) ≡ true → has v y ≡ true → excludes x y → ⊥

-- the value under the key clashes with v at the spot
pub record IsClashUnder {K V A P : Type 0}
    (cmp : K → K → Ordering) (has : V → A → Bool) (excludes : A → A → Type 0)
    (is_spot : V → V → P → Type 0) (es : List (K × V)) (k : K) (v : V) (s : P) : Type 0 where
  pub mine : V
  pub held : lookup (is_at (cmp k)) es ≡ Some mine
  pub clash : Clashes has excludes mine v
  pub there : is_spot mine v s
