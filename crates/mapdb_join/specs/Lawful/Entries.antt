-- A map of lawful values is lawful.
use Rattle.std.specs.Prelude.{◌≡◌, Bool, true, false, cond, ◌||◌, List, [], ◌∷◌, map, Option, Some, None, refl}
use Rattle.std.proofs.Common.{sym, ◌∙◌, ap, subst}
use Rattle.std.proofs.lemmas.List.{length-map, get_or-map}
use Rattle.std.proofs.lemmas.List.Elements.{Contains-append_left, Contains-append_right}
use Rattle.std.proofs.lemmas.Bool.{true≢false}
use Rattle.std.proofs.lemmas.Map.Keys.{sorted_head, sorted_tail}
use Rattle.std.specs.List.{Contains, AllByRecursion}
use Rattle.std.specs.List.Sorted.{IsStrictlySortedBy}
use Rattle.std.specs.Map.{lookup, keys_of}
use Rattle.std.specs.declared.cmp.Ordering.{Ordering}
use Rattle.std.specs.declared.cmp.Ordering.TheVariants.{Less, Equal, Greater}
use Rattle.std.specs.Ordering.{is_eq, ordering_reverse}
use Rattle.std.specs.Cmp.{IsTotalOrder, tied_itself}
use Rattle.std.specs.BTreeMap.{is_at, insert_entry}
use Rattle.mapdb_join.specs.Atoms.{IsExclusion, IsUnion, Clashes}
use Rattle.mapdb_join.specs.Entries.{some_has, has_under, excludes_under, atoms_under, IsMap, IsFirstClash}
use Rattle.mapdb_join.specs.Lawful.Inserted.{sorted_insert_key, all_insert_entry, keys-insert_entry, absent_above, lookup-insert_entry}

-- `Some` of one value is `Some` of no other
same_value : {V : Type 0} (v w : V) → Some v ≡ Some w → v ≡ w
same_value v w h = cc

module _ {K V A : Type 0} (cmp : K → K → Ordering) (has : V → A → Bool) (excludes : A → A → Type 0)
    (law : IsExclusion has excludes) where
  some_sound : (o : Option V) (x y : A) → some_has has o x ≡ true → some_has has o y ≡ true →
      excludes x y → ⊥
  some_sound None x y p q h = absurd (true≢false (sym p))
  some_sound (Some v) x y p q h = law.sound v x y p q h

  -- the exclusion of a map's atoms is lawful
  pub exclusion_under : IsExclusion (has_under cmp has) (excludes_under {K = K} excludes)
  exclusion_under = record {
    symmetric = λ p q h. (sym h.0, law.symmetric _ _ h.1);
    different = λ p h. law.different _ h.1;
    sound = λ es p q a b h. some_sound (lookup (is_at (cmp p.0)) es) p.1 q.1 a (ap (λ k. some_has has (lookup (is_at (cmp k)) es) q.1) h.0 ∙ b) h.1;
  }

-- what a list has, mapped, the mapped list has
pub contains_mapped : {A B : Type 0} (f : A → B) (xs : List A) (x : A) → Contains xs x →
    Contains (map f xs) (f x)
contains_mapped f xs x h = (h.0, rw length-map h.1, get_or-map f xs h.0 x (f x) h.1 ∙ ap f h.2)

module _ {K V A : Type 0} (cmp : K → K → Ordering)
    (exact : (a b : K) → is_at (cmp a) b ≡ true → a ≡ b) (has : V → A → Bool) (atoms : V → List A)
    (law : (v : V) (x : A) → has v x ≡ true → Contains (atoms v) x) where
  finite_in : (k : K) (e : K × V) (es : List (K × V)) (x : A) (b : Bool) → is_at (cmp k) e.0 ≡ b →
      (has_under cmp has es (k, x) ≡ true → Contains (atoms_under atoms es) (k, x)) →
      some_has has (cond b (Some e.1) (lookup (is_at (cmp k)) es)) x ≡ true →
      Contains (atoms_under atoms (e ∷ es)) (k, x)
  finite_in k e es x true here rest h =
      Contains-append_left _ _ _ (subst (λ q. Contains {X = K × A} (map (λ y. (e.0, y)) (atoms e.1)) (q, x)) (sym (exact k e.0 here)) (let f : A → K × A = λ y. (e.0, y) in contains_mapped f (atoms e.1) x (law e.1 x h)))
  finite_in k e es x false here rest h = Contains-append_right _ _ _ (rest h)

  -- each atom of a map stands in its list
  pub finite_under : (es : List (K × V)) (p : K × A) → has_under cmp has es p ≡ true →
      Contains (atoms_under atoms es) p
  finite_under [] p h = absurd (true≢false (sym h))
  finite_under (e ∷ es) p h =
      finite_in p.0 e es p.1 (is_at (cmp p.0) e.0) refl (finite_under es p) h

module _ {K V A : Type 0} {cmp : K → K → Ordering} (o : IsTotalOrder cmp)
    (exact : (a b : K) → is_at (cmp a) b ≡ true → a ≡ b) (has : V → A → Bool)
    (excludes : A → A → Type 0) (is_key : K → Type 0) (is_value : V → Type 0)
    (law : (a b : V) → is_value a → is_value b → (Clashes has excludes a b → ⊥) → (c : V) × is_value c × IsUnion has a b c)
  where
    -- values under one key do not clash
    abbrev Apart : List (K × V) → List (K × V) → Type 0
    Apart a b =
        (k : K) (v w : V) → lookup (is_at (cmp k)) a ≡ Some v → lookup (is_at (cmp k)) b ≡ Some w → Clashes has excludes v w → ⊥

    -- a value that a look-up finds is a program's
    value_at : (k : K) (v : V) (es : List (K × V)) →
        AllByRecursion (λ e. is_key e.0 × is_value e.1) es → lookup (is_at (cmp k)) es ≡ Some v →
        is_value v
    value_at k v [] h at = cc
    value_at k v (e ∷ es) h at = by (λ p. value_at k v es h.1 p) (is_at (cmp k) e.0) at
      where
        by : (lookup (is_at (cmp k)) es ≡ Some v → is_value v) → (t : Bool) →
            cond t (Some e.1) (lookup (is_at (cmp k)) es) ≡ Some v → is_value v
        by rest true p = subst is_value (same_value e.1 v p) h.0.1
        by rest false p = rest p

    -- the union of a value that may be there and another
    united_value : (u : Option V) (w : V) → ((v : V) → u ≡ Some v → is_value v) → is_value w →
        ((v : V) → u ≡ Some v → Clashes has excludes v w → ⊥) →
        (c : V) × is_value c × ((x : A) → has c x ≡ (some_has has u x || has w x))
    united_value None w p q h = (w, q, λ x. refl)
    united_value (Some v) w p q h = law v w (p v refl) q (h v refl)

    -- the entries that are left do not clash with what was joined
    apart_next : (a : List (K × V)) (e : K × V) (es : List (K × V)) (c : V) →
        AllByRecursion (λ y. cmp e.0 y ≡ Less) (keys_of es) → Apart a (e ∷ es) →
        Apart (insert_entry cmp a e.0 c) es
    apart_next a e es c above h k v w at there = by (is_at (cmp k) e.0) refl
      where
        by : (t : Bool) → is_at (cmp k) e.0 ≡ t → Clashes has excludes v w → ⊥
        by true s =
            absurd (let gone : None ≡ Some w = sym (ap (λ z. lookup (is_at (cmp z)) es) (exact k e.0 s) ∙ absent_above cmp exact e.0 es above) ∙ there in cc)
        by false s =
            h k v w (sym (lookup-insert_entry o exact e.0 c k a ∙ ap (λ t. cond t (Some c) (lookup (is_at (cmp k)) a)) s) ∙ at) (ap (λ t. cond t (Some e.1) (lookup (is_at (cmp k)) es)) s ∙ there)

    -- false adds nothing
    with_last : (t : Bool) → (t || false) ≡ t
    with_last true = refl
    with_last false = refl

    -- what an entry more adds
    united_next : (a : List (K × V)) (e : K × V) (es : List (K × V)) (c : V) →
        AllByRecursion (λ y. cmp e.0 y ≡ Less) (keys_of es) →
        ((x : A) → has c x ≡ (has_under cmp has a (e.0, x) || has e.1 x)) → (q : K) (x : A) →
        (has_under cmp has (insert_entry cmp a e.0 c) (q, x) || has_under cmp has es (q, x))
        ≡ (has_under cmp has a (q, x) || has_under cmp has (e ∷ es) (q, x))
    united_next a e es c above h q x =
        ap (λ u. some_has has u x || has_under cmp has es (q, x)) (lookup-insert_entry o exact e.0 c q a)
        ∙ by (is_at (cmp q) e.0) refl
      where
        by : (t : Bool) → is_at (cmp q) e.0 ≡ t →
            (some_has has (cond t (Some c) (lookup (is_at (cmp q)) a)) x || has_under cmp has es (q, x))
            ≡ (has_under cmp has a (q, x) || some_has has (cond t (Some e.1) (lookup (is_at (cmp q)) es)) x)
        by true s =
            let same = exact q e.0 s in
            ap (λ u. has c x || some_has has u x) (ap (λ z. lookup (is_at (cmp z)) es) same ∙ absent_above cmp exact e.0 es above)
            ∙ with_last (has c x) ∙ h x ∙ ap (λ z. has_under cmp has a (z, x) || has e.1 x) (sym same)
        by false s = refl

    -- two maps without a clash under a key have a union
    united : (a b : List (K × V)) → IsMap cmp is_key is_value a → IsMap cmp is_key is_value b →
        Apart a b →
        (c : List (K × V)) × IsMap cmp is_key is_value c × ((q : K) (x : A) → has_under cmp has c (q, x) ≡ (has_under cmp has a (q, x) || has_under cmp has b (q, x)))
    united a [] p q h = (a, p, λ k x. sym (with_last (has_under cmp has a (k, x))))
    united a (e ∷ es) p q h =
        let above = sorted_head cmp e.0 (keys_of es) q.sorted in
        let u = united_value (lookup (is_at (cmp e.0)) a) e.1 (λ v at. value_at e.0 v a p.all at) q.all.0.1 (λ v at. h e.0 v e.1 at (ap (λ r. cond (is_eq r) (Some e.1) (lookup (is_at (cmp e.0)) es)) (tied_itself o e.0))) in
        let held : IsMap cmp is_key is_value (insert_entry cmp a e.0 u.0) = record {
          sorted = subst (IsStrictlySortedBy cmp) (sym (keys-insert_entry cmp e.0 u.0 a)) (sorted_insert_key o e.0 (keys_of a) p.sorted);
          all = all_insert_entry cmp (λ k v. is_key k × is_value v) e.0 u.0 (q.all.0.0, u.1) (λ x w r. (r.0, u.1)) a p.all;
        } in
        let r = united (insert_entry cmp a e.0 u.0) es held (record { sorted = sorted_tail cmp e.0 (keys_of es) q.sorted; all = q.all.1 }) (apart_next a e es u.0 above h) in
        (r.0, r.1, λ k x. r.2 k x ∙ united_next a e es u.0 above u.2 k x)

    -- two maps that do not clash have a union
    pub joined_under : (a b : List (K × V)) → IsMap cmp is_key is_value a →
        IsMap cmp is_key is_value b →
        (Clashes (has_under cmp has) (excludes_under excludes) a b → ⊥) →
        (c : List (K × V)) × IsMap cmp is_key is_value c × IsUnion (has_under cmp has) a b c
    joined_under a b p q h =
        let r = united a b p q (λ k v w at there c. h (record { one = (k, c.one); other = (k, c.other); has_one = ap (λ u. some_has has u c.one) at ∙ c.has_one; has_other = ap (λ u. some_has has u c.other) there ∙ c.has_other; apart = (refl, c.apart) })) in
        (r.0, r.1, λ x. r.2 x.0 x.1)

module _ {K V A P : Type 0} {cmp : K → K → Ordering} (o : IsTotalOrder cmp)
    (exact : (a b : K) → is_at (cmp a) b ≡ true → a ≡ b) (has : V → A → Bool)
    (excludes : A → A → Type 0) (is_spot : V → V → P → Type 0)
    (law : (v w : V) (s t : P) → is_spot v w s → is_spot v w t → s ≡ t) where
  -- no clash is named above another
  not_below : (a b : List (K × V)) (s t : K × P) → IsFirstClash cmp has excludes is_spot a b s →
      IsFirstClash cmp has excludes is_spot a b t → cmp s.0 t.0 ≡ Less → ⊥
  not_below a b s t p q below =
      q.least s.0 p.clash.one p.clash.other below (ap (λ u. some_has has u p.clash.one) p.in_first ∙ p.clash.has_one) (ap (λ u. some_has has u p.clash.other) p.in_second ∙ p.clash.has_other) p.clash.apart

  -- two maps clash first at one spot
  pub one_first_spot : (a b : List (K × V)) (s t : K × P) →
      IsFirstClash cmp has excludes is_spot a b s → IsFirstClash cmp has excludes is_spot a b t →
      s ≡ t
  one_first_spot a b s t p q = by (cmp s.0 t.0) refl
    where
      same_place : s.0 ≡ t.0 → s ≡ t
      same_place e =
          let first = same_value q.first p.first (sym q.in_first ∙ ap (λ k. lookup (is_at (cmp k)) a) (sym e) ∙ p.in_first) in
          let second = same_value q.second p.second (sym q.in_second ∙ ap (λ k. lookup (is_at (cmp k)) b) (sym e) ∙ p.in_second) in
          let there = subst (λ v. is_spot v p.second t.1) first (subst (λ w. is_spot q.first w t.1) second q.there) in
          let f = law p.first p.second s.1 t.1 p.there there in
          λ i. (e i, f i)

      by : (r : Ordering) → cmp s.0 t.0 ≡ r → s ≡ t
      by Less h = absurd (not_below a b s t p q h)
      by Equal h = same_place (exact s.0 t.0 (ap is_eq h))
      by Greater h = absurd (not_below a b t s q p (o.antisymm t.0 s.0 ∙ ap ordering_reverse h))
