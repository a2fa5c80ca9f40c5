-- A key or an entry that is put at its place in the order.
use Rattle.std.specs.Prelude.{◌≡◌, Bool, true, false, cond, ◌||◌, List, [], ◌∷◌, Option, Some, None, refl}
use Rattle.std.proofs.Common.{sym, ◌∙◌, ap}
use Rattle.std.specs.declared.cmp.Ordering.{Ordering}
use Rattle.std.specs.declared.cmp.Ordering.TheVariants.{Less, Equal, Greater}
use Rattle.std.specs.Ordering.{is_eq, match_ordering, ordering_reverse}
use Rattle.std.specs.Cmp.{IsTotalOrder}
use Rattle.std.specs.List.{AllByRecursion, list_any}
use Rattle.std.specs.List.Sorted.{IsStrictlySortedBy}
use Rattle.std.specs.Map.{lookup, keys_of}
use Rattle.std.specs.BTreeMap.{is_at, insert_entry}
use Rattle.std.specs.BTreeSet.{insert_key}
use Rattle.std.proofs.lemmas.Bool.{true≢false}
use Rattle.std.proofs.lemmas.Map.Keys.{sorted_head, sorted_tail}

module _ {K : Type 0} (cmp : K → K → Ordering) where
  -- what holds of the key and of each other key holds of all
  pub all_insert_key : (P : K → Type 0) (k : K) → P k → (ks : List K) → AllByRecursion P ks →
      AllByRecursion P (insert_key cmp ks k)
  all_insert_key P k here [] h = (here, tt)
  all_insert_key P k here (x ∷ xs) h = by (all_insert_key P k here xs h.1) (cmp k x)
    where
      by : AllByRecursion P (insert_key cmp xs k) → (r : Ordering) →
          AllByRecursion P (match_ordering r (k ∷ x ∷ xs) (x ∷ xs) (x ∷ insert_key cmp xs k))
      by rest Less = (here, h)
      by rest Equal = h
      by rest Greater = (h.0, rest)

  -- a key below all others stands first
  pub sorted_cons : (k : K) (ks : List K) → AllByRecursion (λ y. cmp k y ≡ Less) ks →
      IsStrictlySortedBy cmp ks → IsStrictlySortedBy cmp (k ∷ ks)
  unfolding IsStrictlySortedBy
  sorted_cons k ks above sorted = (above, sorted)

  -- no keys are in order
  pub sorted_nil : IsStrictlySortedBy cmp []
  unfolding IsStrictlySortedBy
  sorted_nil = tt

module _ {K : Type 0} {cmp : K → K → Ordering} (o : IsTotalOrder cmp) where
  -- what is below a key is below each key above that
  all_above : (j k : K) → cmp j k ≡ Less → (ks : List K) → AllByRecursion (λ y. cmp k y ≡ Less) ks →
      AllByRecursion (λ y. cmp j y ≡ Less) ks
  all_above j k below [] h = tt
  all_above j k below (x ∷ xs) h = (o.trans j k x below h.0, all_above j k below xs h.1)

  -- keys stay in order when one is put
  pub sorted_insert_key : (k : K) (ks : List K) → IsStrictlySortedBy cmp ks →
      IsStrictlySortedBy cmp (insert_key cmp ks k)
  sorted_insert_key k [] s = sorted_cons cmp k [] tt (sorted_nil cmp)
  sorted_insert_key k (x ∷ xs) s =
      by (sorted_insert_key k xs (sorted_tail cmp x xs s)) (cmp k x) refl
    where
      by : IsStrictlySortedBy cmp (insert_key cmp xs k) → (r : Ordering) → cmp k x ≡ r →
          IsStrictlySortedBy cmp (match_ordering r (k ∷ x ∷ xs) (x ∷ xs) (x ∷ insert_key cmp xs k))
      by rest Less e = sorted_cons cmp k (x ∷ xs) (e, all_above k x e xs (sorted_head cmp x xs s)) s
      by rest Equal e = s
      by rest Greater e =
          sorted_cons cmp x (insert_key cmp xs k)
          (all_insert_key cmp (λ y. cmp x y ≡ Less) k (o.antisymm x k ∙ ap ordering_reverse e) xs (sorted_head cmp x xs s))
          rest

module _ {K V : Type 0} (cmp : K → K → Ordering) where
  -- what holds of the entry and of each other entry holds of all
  pub all_insert_entry : (P : K → V → Type 0) (k : K) (v : V) → P k v →
      ((x : K) (w : V) → P x w → P x v) → (es : List (K × V)) → AllByRecursion (λ e. P e.0 e.1) es →
      AllByRecursion (λ e. P e.0 e.1) (insert_entry cmp es k v)
  all_insert_entry P k v here takes [] h = (here, tt)
  all_insert_entry P k v here takes (e ∷ es) h =
      by (all_insert_entry P k v here takes es h.1) (cmp k e.0)
    where
      by : AllByRecursion (λ x. P x.0 x.1) (insert_entry cmp es k v) → (r : Ordering) →
          AllByRecursion (λ x. P x.0 x.1) (match_ordering r ((k, v) ∷ e ∷ es) ((e.0, v) ∷ es) (e ∷ insert_entry cmp es k v))
      by rest Less = (here, h)
      by rest Equal = (takes e.0 e.1 h.0, h.1)
      by rest Greater = (h.0, rest)

  -- the keys after an entry is put
  pub keys-insert_entry : (k : K) (v : V) (es : List (K × V)) →
      keys_of (insert_entry cmp es k v) ≡ insert_key cmp (keys_of es) k
  keys-insert_entry k v [] = refl
  keys-insert_entry k v (e ∷ es) =
      by (cmp k e.0)
      ∙ ap (λ l. match_ordering (cmp k e.0) (k ∷ e.0 ∷ keys_of es) (e.0 ∷ keys_of es) (e.0 ∷ l)) (keys-insert_entry k v es)
    where
      by : (r : Ordering) →
          keys_of (match_ordering r ((k, v) ∷ e ∷ es) ((e.0, v) ∷ es) (e ∷ insert_entry cmp es k v))
          ≡ match_ordering r (k ∷ e.0 ∷ keys_of es) (e.0 ∷ keys_of es) (e.0 ∷ keys_of (insert_entry cmp es k v))
      by Less = refl
      by Equal = refl
      by Greater = refl

  -- the key that a look-up finds is none of keys above it
  pub absent_above :
      (exact : (a b : K) → is_at (cmp a) b ≡ true → a ≡ b) (k : K) (es : List (K × V)) →
      AllByRecursion (λ y. cmp k y ≡ Less) (keys_of es) → lookup (is_at (cmp k)) es ≡ None
  absent_above exact k [] h = refl
  absent_above exact k (e ∷ es) h =
      ap (λ r. cond (is_eq r) (Some e.1) (lookup (is_at (cmp k)) es)) h.0
      ∙ absent_above exact k es h.1

module _ {K : Type 0} {cmp : K → K → Ordering} (o : IsTotalOrder cmp)
    (exact : (a b : K) → is_at (cmp a) b ≡ true → a ≡ b) where
  -- what has the key, and what compares to it as the first key does
  pub has-insert_key : (k q : K) (ks : List K) →
      list_any (is_at (cmp q)) (insert_key cmp ks k)
      ≡ (list_any (is_at (cmp q)) ks || is_at (cmp q) k)
  has-insert_key k q [] = last (is_at (cmp q) k)
    where
      last : (t : Bool) → (t || false) ≡ t
      last true = refl
      last false = refl
  has-insert_key k q (x ∷ xs) = by (has-insert_key k q xs) (cmp k x) refl
    where
      front : (s t u : Bool) → (s || (t || u)) ≡ ((t || u) || s)
      front true true u = refl
      front true false true = refl
      front true false false = refl
      front false true u = refl
      front false false true = refl
      front false false false = refl

      twice : (t u : Bool) → (t || u) ≡ ((t || u) || t)
      twice true u = refl
      twice false true = refl
      twice false false = refl

      regroup : (t u s : Bool) → (t || (u || s)) ≡ ((t || u) || s)
      regroup true u s = refl
      regroup false u s = refl

      by :
          list_any (is_at (cmp q)) (insert_key cmp xs k)
          ≡ (list_any (is_at (cmp q)) xs || is_at (cmp q) k) → (r : Ordering) → cmp k x ≡ r →
          list_any (is_at (cmp q)) (match_ordering r (k ∷ x ∷ xs) (x ∷ xs) (x ∷ insert_key cmp xs k))
          ≡ ((is_at (cmp q) x || list_any (is_at (cmp q)) xs) || is_at (cmp q) k)
      by rest Less e = front (is_at (cmp q) k) (is_at (cmp q) x) (list_any (is_at (cmp q)) xs)
      by rest Equal e =
          twice (is_at (cmp q) x) (list_any (is_at (cmp q)) xs)
          ∙ ap (λ y. ((is_at (cmp q) x || list_any (is_at (cmp q)) xs) || is_at (cmp q) y)) (sym (exact k x (ap is_eq e)))
      by rest Greater e =
          ap (λ t. is_at (cmp q) x || t) rest
          ∙ regroup (is_at (cmp q) x) (list_any (is_at (cmp q)) xs) (is_at (cmp q) k)

  -- what a look-up finds after an entry is put
  pub lookup-insert_entry : {V : Type 0} (k : K) (v : V) (q : K) (es : List (K × V)) →
      lookup (is_at (cmp q)) (insert_entry cmp es k v)
      ≡ cond (is_at (cmp q) k) (Some v) (lookup (is_at (cmp q)) es)
  lookup-insert_entry k v q [] = refl
  lookup-insert_entry {V} k v q (e ∷ es) = by (lookup-insert_entry k v q es) (cmp k e.0) refl
    where
      covers : (t : Bool) (a b c : Option V) → cond t a c ≡ cond t a (cond t b c)
      covers true a b c = refl
      covers false a b c = refl

      swaps : (s t : Bool) (a b c : Option V) → (s ≡ true → t ≡ true → ⊥) →
          cond s a (cond t b c) ≡ cond t b (cond s a c)
      swaps true true a b c apart = absurd (apart refl refl)
      swaps true false a b c apart = refl
      swaps false true a b c apart = refl
      swaps false false a b c apart = refl

      by :
          lookup (is_at (cmp q)) (insert_entry cmp es k v)
          ≡ cond (is_at (cmp q) k) (Some v) (lookup (is_at (cmp q)) es) → (r : Ordering) →
          cmp k e.0 ≡ r →
          lookup (is_at (cmp q)) (match_ordering r ((k, v) ∷ e ∷ es) ((e.0, v) ∷ es) (e ∷ insert_entry cmp es k v))
          ≡ cond (is_at (cmp q) k) (Some v) (cond (is_at (cmp q) e.0) (Some e.1) (lookup (is_at (cmp q)) es))
      by rest Less h = refl
      by rest Equal h =
          covers (is_at (cmp q) e.0) (Some v) (Some e.1) (lookup (is_at (cmp q)) es)
          ∙ ap (λ y. cond (is_at (cmp q) y) (Some v) (cond (is_at (cmp q) e.0) (Some e.1) (lookup (is_at (cmp q)) es))) (sym (exact k e.0 (ap is_eq h)))
      by rest Greater h =
          ap (λ t. cond (is_at (cmp q) e.0) (Some e.1) t) rest
          ∙ swaps (is_at (cmp q) e.0) (is_at (cmp q) k) (Some e.1) (Some v) (lookup (is_at (cmp q)) es)
          (λ a b. true≢false (sym (ap is_eq (ap (λ y. cmp y e.0) (sym (exact q k b))) ∙ a) ∙ ap is_eq h))
