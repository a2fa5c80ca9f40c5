-- The atoms of a map: those of its values, each with its key.
use Rattle.std.specs.Prelude.{◌≡◌, Bool, true, false, List, [], ◌∷◌, ◌++◌, map, Option, Some, None}
use Rattle.std.specs.Prelude.{is_some}
use Rattle.std.specs.List.{AllByRecursion}
use Rattle.std.specs.List.Sorted.{IsStrictlySortedBy}
use Rattle.std.specs.Map.{lookup, keys_of}
use Rattle.std.specs.declared.cmp.Ordering.{Ordering}
use Rattle.std.specs.declared.cmp.Ordering.TheVariants.{Less}
use Rattle.std.specs.BTreeMap.{is_at}
use Rattle.mapdb_join.specs.Atoms.{Clashes, IsBetween}

module _ {V A : Type 0} (has : V → A → Bool) where
  -- whether there is a value, and it has the atom
  abbrev pub some_has : Option V → A → Bool
  some_has None x = false
  some_has (Some v) x = has v x

module _ {K V A : Type 0} (cmp : K → K → Ordering) (has : V → A → Bool) where
  -- whether the value under the key has the atom
  abbrev pub has_under : List (K × V) → K × A → Bool
  has_under es p = some_has has (lookup (is_at (cmp p.0)) es) p.1

-- whether the map has a value under the key, be it one without atoms
abbrev pub holds_key : {K V : Type 0} → (K → K → Ordering) → List (K × V) → K → Bool
holds_key cmp es k = is_some (lookup (is_at (cmp k)) es)

-- atoms under one key that exclude each other there
abbrev pub excludes_under : {K A : Type 0} → (A → A → Type 0) → K × A → K × A → Type 0
excludes_under excludes p q = (p.0 ≡ q.0) × excludes p.1 q.1

-- the atoms of each value, under its key
abbrev pub atoms_under : {K V A : Type 0} → (V → List A) → List (K × V) → List (K × A)
atoms_under atoms [] = []
atoms_under atoms (e ∷ es) = map (λ x. (e.0, x)) (atoms e.1) ++ atoms_under atoms es

-- a map that a program can have: its keys rise, and each key and each value is one of a program
pub record IsMap {K V : Type 0}
    (cmp : K → K → Ordering) (is_key : K → Type 0) (is_value : V → Type 0)
    (es : List (K × V)) : Type 0 where
  pub sorted : IsStrictlySortedBy cmp (keys_of es)
  pub all : AllByRecursion (λ e. is_key e.0 × is_value e.1) es

-- the spot's key is the least under which a and b clash,
-- and its rest is where the values under it clash
pub record IsFirstClash {K V A P : Type 0}
    (cmp : K → K → Ordering) (has : V → A → Bool) (excludes : A → A → Type 0)
    (is_spot : V → V → P → Type 0) (a b : List (K × V)) (s : K × P) : Type 0 where
  pub first : V
  pub second : V
  pub in_first : lookup (is_at (cmp s.0)) a ≡ Some first
  pub in_second : lookup (is_at (cmp s.0)) b ≡ Some second
  pub clash : Clashes has excludes first second
  pub there : is_spot first second s.1
  pub least : (q : K) (x y : A) → cmp q s.0 ≡ Less →
      has_under cmp has a (q, x) ≡ true → has_under cmp has b (q, y) ≡ true → excludes x y → ⊥

-- new has the value under the key, and under each other key what old has
pub record IsChangedAt {K V : Type 0} (cmp : K → K → Ordering)
    (old new : List (K × V)) (k : K) (v : V) : Type 0 where
  pub here : lookup (is_at (cmp k)) new ≡ Some v
  pub others : (q : K) → is_at (cmp k) q ≡ false →
      lookup (is_at (cmp q)) new ≡ lookup (is_at (cmp q)) old

-- under the key new has the atoms of the value, and under each other key those of old
pub record ChangesAlone {K V A : Type 0} (cmp : K → K → Ordering) (has : V → A → Bool)
    (old new : List (K × V)) (k : K) (v : V) : Type 0 where
  pub here : (x : A) → has_under cmp has new (k, x) ≡ has v x
  pub others : (q : K) (x : A) → is_at (cmp k) q ≡ false →
      has_under cmp has new (q, x) ≡ has_under cmp has old (q, x)

-- what a merge that ran out of memory leaves: its keys lie between the old ones and those of both,
-- and the value under a new key is whole
pub record IsPartMerged {K V A : Type 0} (cmp : K → K → Ordering) (has : V → A → Bool)
    (old other new : List (K × V)) : Type 0 where
  pub keys : IsBetween (holds_key cmp) old other new
  pub whole : (q : K) (x : A) → holds_key cmp old q ≡ false → holds_key cmp new q ≡ true →
      has_under cmp has new (q, x) ≡ has_under cmp has other (q, x)
