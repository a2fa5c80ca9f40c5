-- A set that grows is lawful.
use Rattle.std.specs.Prelude.{◌≡◌, Bool, true, false, ◌||◌, List, [], ◌∷◌, refl}
use Rattle.std.proofs.Common.{◌∙◌, ap}
use Rattle.std.specs.List.{Contains, AllByRecursion}
use Rattle.std.specs.declared.cmp.Ordering.{Ordering}
use Rattle.std.specs.Cmp.{IsTotalOrder}
use Rattle.std.specs.BTreeMap.{is_at}
use Rattle.std.specs.BTreeSet.{insert_key}
use Rattle.std.proofs.lemmas.Map.Views.{Contains-from_any}
use Rattle.mapdb_join.specs.Atoms.{IsUnion, Clashes}
use Rattle.mapdb_join.specs.Grow.{has_key, IsKeySet}
use Rattle.mapdb_join.specs.Lawful.Inserted.{all_insert_key, sorted_insert_key, has-insert_key}

-- each key of a set stands in its list
pub finite_keys : {K : Type 0} (cmp : K → K → Ordering) →
    ((a b : K) → is_at (cmp a) b ≡ true → a ≡ b) → (ks : List K) (k : K) → has_key cmp ks k ≡ true →
    Contains ks k
finite_keys cmp exact ks k h = Contains-from_any exact k ks h

module _ {K : Type 0} {cmp : K → K → Ordering} (o : IsTotalOrder cmp)
    (exact : (a b : K) → is_at (cmp a) b ≡ true → a ≡ b) (is_key : K → Type 0) where
  with_last : (t : Bool) → t ≡ (t || false)
  with_last true = refl
  with_last false = refl

  regroup : (s t u : Bool) → ((s || t) || u) ≡ (s || (t || u))
  regroup true t u = refl
  regroup false t u = refl

  -- two sets have a union
  united : (a b : List K) → IsKeySet cmp is_key a → AllByRecursion is_key b →
      (c : List K) × IsKeySet cmp is_key c × IsUnion (has_key cmp) a b c
  united a [] p all = (a, p, λ x. with_last (has_key cmp a x))
  united a (k ∷ ks) p all =
      let r = united (insert_key cmp a k) ks (record { sorted = sorted_insert_key o k a p.sorted; all = all_insert_key cmp is_key k all.0 a p.all }) all.1 in
      (r.0, r.1, λ x. r.2 x ∙ ap (λ t. t || has_key cmp ks x) (has-insert_key o exact k x a) ∙ regroup (has_key cmp a x) (is_at (cmp x) k) (has_key cmp ks x))

  -- two sets that a program can have have a union that it can have
  pub joined_keys : (a b : List K) → IsKeySet cmp is_key a → IsKeySet cmp is_key b →
      (Clashes (has_key cmp) (λ _ _. ⊥) a b → ⊥) →
      (c : List K) × IsKeySet cmp is_key c × IsUnion (has_key cmp) a b c
  joined_keys a b p q h = united a b p q.all
