-- The atoms of a set: its keys.
use Rattle.std.specs.Prelude.{Bool, List}
use Rattle.std.specs.List.{AllByRecursion, list_any}
use Rattle.std.specs.List.Sorted.{IsStrictlySortedBy}
use Rattle.std.specs.declared.cmp.Ordering.{Ordering}
use Rattle.std.specs.BTreeMap.{is_at}

-- whether k is among the keys
abbrev pub has_key : {K : Type 0} → (K → K → Ordering) → List K → K → Bool
has_key cmp ks k = list_any (is_at (cmp k)) ks

-- a set that a program can have: its keys rise, and each is a key of a program
pub record IsKeySet {K : Type 0} (cmp : K → K → Ordering) (is_key : K → Type 0) (ks : List K) : Type
    0 where
  pub sorted : IsStrictlySortedBy cmp ks
  pub all : AllByRecursion is_key ks
