-- A map of one entry.
use Rattle.std.specs.Prelude.{◌≡◌, ◌↔◌, Bool, true, false, cond, List, [], ◌∷◌, Option, Some, None, IfSome, refl}
use Rattle.std.proofs.Common.{sym, ◌∙◌, ap}
use Rattle.std.specs.Map.{lookup}
use Rattle.std.specs.declared.cmp.Ordering.{Ordering}
use Rattle.std.specs.Ordering.{is_eq}
use Rattle.std.specs.Cmp.{IsTotalOrder, tied_itself}
use Rattle.std.specs.BTreeMap.{is_at}
use Rattle.std.specs.List.Sorted.{IsStrictlySortedBy}
use Rattle.mapdb_join.specs.Atoms.{HasNone, Clashes}
use Rattle.mapdb_join.specs.Clashing.{IsClashUnder}
use Rattle.mapdb_join.specs.Entries.{some_has, has_under, excludes_under, IsFirstClash, IsMap}
use Rattle.mapdb_join.proofs.Parts.{clash_up}
use Rattle.mapdb_join.proofs.Walking.{parted_first, parted_found}

one_sorted : {K : Type 0} (cmp : K → K → Ordering) (k : K) → IsStrictlySortedBy cmp (k ∷ [])
unfolding IsStrictlySortedBy
one_sorted cmp k = (tt, tt)

-- a key and a value of a program make a map of one
pub one_shown :
    {K V : Type 0} {cmp : K → K → Ordering} {is_key : K → Type 0} {is_value : V → Type 0} (k : K) (v : V) →
    is_key k → is_value v → IsMap cmp is_key is_value ((k, v) ∷ [])
one_shown {cmp = cmp} k v p q = record { sorted = one_sorted cmp k; all = ((p, q), tt) }

module _ {K V A : Type 0} {cmp : K → K → Ordering} (has : V → A → Bool) (o : IsTotalOrder cmp) where
  one_there : (k : K) (v : V) → lookup (is_at (cmp k)) ((k, v) ∷ []) ≡ Some v
  one_there k v = ap (λ t. cond t (Some v) None) (ap is_eq (tied_itself o k))

  -- a map of one value has no atom where the value has none
  pub one_none : (k : K) (v : V) → HasNone has v ↔ HasNone (has_under cmp has) ((k, v) ∷ [])
  one_none k v =
      ((λ n p. by (is_at (cmp p.0) k) p.1 (n p.1)), (λ n x. sym (ap (λ w. some_has has w x) (one_there k v)) ∙ n (k, x)))
    where
      by : (t : Bool) (x : A) → has v x ≡ false → some_has has (cond t (Some v) None) x ≡ false
      by true x h = h
      by false x h = refl

  module _ (excludes : A → A → Type 0) (exact : (a b : K) → is_at (cmp a) b ≡ true → a ≡ b) where
    -- a clash under the key of the one entry is the first one
    pub one_clash :
        {P : Type 0} {is_spot : V → V → P → Type 0} (map : List (K × V)) (k : K) (v : V) (s : P) →
        IsClashUnder cmp has excludes is_spot map k v s →
        Clashes (has_under cmp has) (excludes_under excludes) map ((k, v) ∷ [])
        × IsFirstClash cmp has excludes is_spot map ((k, v) ∷ []) (k, s)
    one_clash map k v s u =
        parted_found exact o (k, v) [] s u (parted_first map ((k, v) ∷ []) (one_there k v, tt) (one_sorted cmp k))

    -- a map that does not clash with one entry has no value that clashes with it
    pub one_apart : (map : List (K × V)) (k : K) (v : V) →
        (Clashes (has_under cmp has) (excludes_under excludes) map ((k, v) ∷ []) → ⊥) →
        IfSome (lookup (is_at (cmp k)) map) (λ mine. Clashes has excludes mine v → ⊥)
    one_apart map k v apart = by (lookup (is_at (cmp k)) map) refl
      where
        by : (w : Option V) → lookup (is_at (cmp k)) map ≡ w →
            IfSome w (λ mine. Clashes has excludes mine v → ⊥)
        by None at = tt
        by (Some mine) at = λ c. apart (clash_up has excludes exact o map k v mine at c)
