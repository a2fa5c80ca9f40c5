-- One entry of a map that changes.
use Rattle.std.specs.Prelude.{◌≡◌, Bool, true, false, cond, ◌||◌, List, [], ◌∷◌, Option, Some, None, is_some, refl}
use Rattle.std.proofs.Common.{sym, ◌∙◌, ap}
use Rattle.std.specs.Map.{lookup}
use Rattle.std.specs.declared.cmp.Ordering.{Ordering}
use Rattle.std.specs.Cmp.{IsTotalOrder, eq_by_cmp_equiv}
use Rattle.std.specs.BTreeMap.{is_at}
use Rattle.std.proofs.lemmas.Bool.{or_left}
use Rattle.mapdb_join.specs.Atoms.{Clashes, IsSame, IsUnion, IsBetween}
use Rattle.mapdb_join.specs.Entries.{some_has, has_under, holds_key, IsChangedAt, ChangesAlone}
use Rattle.mapdb_join.specs.Faults.{FaultLeaves, TellsMemory}
use Rattle.mapdb_join.specs.declared.merge.MergeFault.{MergeFault}
use Rattle.mapdb_join.specs.declared.merge.MergeFault.TheVariants.{Clash, Memory}

module _ {K V A : Type 0} {cmp : K → K → Ordering} (has : V → A → Bool) where
  pub changed_alone : (old new : List (K × V)) (k : K) (v : V) → IsChangedAt cmp old new k v →
      ChangesAlone cmp has old new k v
  changed_alone old new k v h = record {
    here = λ x. ap (λ o. some_has has o x) h.here;
    others = λ q x apart. ap (λ o. some_has has o x) (h.others q apart);
  }

module _ {K V A : Type 0} {cmp : K → K → Ordering}
    (exact : (a b : K) → is_at (cmp a) b ≡ true → a ≡ b) (o : IsTotalOrder cmp) (has : V → A → Bool)
  where
    turned : (k q : K) → is_at (cmp k) q ≡ is_at (cmp q) k
    turned k q = (eq_by_cmp_equiv o).symm k q

    -- a key that is at k has the value of k
    there : (es : List (K × V)) (k q : K) (l : Option V) → lookup (is_at (cmp k)) es ≡ l →
        is_at (cmp k) q ≡ true → lookup (is_at (cmp q)) es ≡ l
    there es k q l at e = ap (λ z. lookup (is_at (cmp z)) es) (sym (exact k q e)) ∙ at

    -- what the changed map has under each key
    changed_at : (old new : List (K × V)) (k : K) (w : V) → IsChangedAt cmp old new k w → (q : K) →
        lookup (is_at (cmp q)) new ≡ cond (is_at (cmp k) q) (Some w) (lookup (is_at (cmp q)) old)
    changed_at old new k w h q = by (is_at (cmp k) q) refl
      where
        by : (t : Bool) → is_at (cmp k) q ≡ t →
            lookup (is_at (cmp q)) new ≡ cond t (Some w) (lookup (is_at (cmp q)) old)
        by true e = there new k q (Some w) h.here e
        by false e = h.others q e

    -- the keys are those of before, and the one whose value changed
    pub keys_at : (old new : List (K × V)) (k : K) (part w : V) → IsChangedAt cmp old new k w →
        IsUnion (holds_key cmp) old ((k, part) ∷ []) new
    keys_at old new k part w u q =
        ap is_some (changed_at old new k w u q) ∙ by (is_at (cmp k) q) (lookup (is_at (cmp q)) old)
        ∙ ap (λ t. holds_key cmp old q || is_some (cond t (Some part) None)) (turned k q)
      where
        by : (t : Bool) (l : Option V) →
            is_some (cond t (Some w) l) ≡ (is_some l || is_some (cond t (Some part) None))
        by true None = refl
        by true (Some v) = refl
        by false None = refl
        by false (Some v) = refl

    -- where the key was held, no key comes or goes
    pub keys_same : (old new : List (K × V)) (k : K) (mine w : V) →
        lookup (is_at (cmp k)) old ≡ Some mine → IsChangedAt cmp old new k w →
        IsSame (holds_key cmp) old new
    keys_same old new k mine w at u q =
        by (is_at (cmp k) q) (lookup (is_at (cmp q)) old) (there old k q (Some mine) at) ∙ sym (ap is_some (changed_at old new k w u q))
      where
        by : (t : Bool) (l : Option V) → (t ≡ true → l ≡ Some mine) →
            is_some l ≡ is_some (cond t (Some w) l)
        by true l h = ap is_some (h refl)
        by false l h = refl

    with_last : (t : Bool) → t ≡ (t || false)
    with_last true = refl
    with_last false = refl

    -- a union of the value under a key is one of the map
    pub union_at : (old new : List (K × V)) (k : K) (v part w : V) →
        lookup (is_at (cmp k)) old ≡ Some v → IsChangedAt cmp old new k w → IsUnion has v part w →
        IsUnion (has_under cmp has) old ((k, part) ∷ []) new
    union_at old new k v part w at h u p = by (is_at (cmp p.0) k) refl
      where
        by : (t : Bool) → is_at (cmp p.0) k ≡ t →
            has_under cmp has new p
            ≡ (has_under cmp has old p || some_has has (cond t (Some part) None) p.1)
        by true e =
            let same = exact p.0 k e in
            ap (λ z. has_under cmp has new (z, p.1)) same ∙ ap (λ y. some_has has y p.1) h.here ∙ u p.1
            ∙ ap (λ y. some_has has y p.1 || has part p.1) (sym at)
            ∙ ap (λ z. has_under cmp has old (z, p.1) || has part p.1) (sym same)
        by false e =
            ap (λ y. some_has has y p.1) (h.others p.0 ((eq_by_cmp_equiv o).symm k p.0 ∙ e))
            ∙ with_last (has_under cmp has old p)

    -- where the key had no value, a value with the atoms of the part makes the union
    pub union_new : (old new : List (K × V)) (k : K) (part w : V) →
        lookup (is_at (cmp k)) old ≡ None → IsChangedAt cmp old new k w → IsSame has part w →
        IsUnion (has_under cmp has) old ((k, part) ∷ []) new
    union_new old new k part w absent u same p =
        ap (λ y. some_has has y p.1) (changed_at old new k w u p.0)
        ∙ by (is_at (cmp k) p.0) (lookup (is_at (cmp p.0)) old) (there old k p.0 None absent)
        ∙ ap (λ t. has_under cmp has old p || some_has has (cond t (Some part) None) p.1) (turned k p.0)
      where
        by : (t : Bool) (l : Option V) → (t ≡ true → l ≡ None) →
            some_has has (cond t (Some w) l) p.1
            ≡ (some_has has l p.1 || some_has has (cond t (Some part) None) p.1)
        by true l h = sym (same p.1) ∙ sym (ap (λ y. some_has has y p.1 || has part p.1) (h refl))
        by false l h = with_last (some_has has l p.1)

    -- atoms between those of a value and its union with a part lie so in the map too
    pub between_at : (old new : List (K × V)) (k : K) (mine part w : V) →
        lookup (is_at (cmp k)) old ≡ Some mine → IsChangedAt cmp old new k w →
        IsBetween has mine part w → IsBetween (has_under cmp has) old ((k, part) ∷ []) new
    between_at old new k mine part w at u b = record {
      kept = λ p h.
          ap (λ y. some_has has y p.1) (changed_at old new k w u p.0)
          ∙ kept (is_at (cmp k) p.0) (lookup (is_at (cmp p.0)) old) p.1 (there old k p.0 (Some mine) at) h;
      within = λ p h.
          ap (λ t. has_under cmp has old p || some_has has (cond t (Some part) None) p.1) (sym (turned k p.0))
          ∙ within (is_at (cmp k) p.0) (lookup (is_at (cmp p.0)) old) p.1 (there old k p.0 (Some mine) at)
          (sym (ap (λ y. some_has has y p.1) (changed_at old new k w u p.0)) ∙ h);
    }
      where
        kept : (t : Bool) (l : Option V) (x : A) → (t ≡ true → l ≡ Some mine) →
            some_has has l x ≡ true → some_has has (cond t (Some w) l) x ≡ true
        kept true l x h i = b.kept x (sym (ap (λ y. some_has has y x) (h refl)) ∙ i)
        kept false l x h i = i

        within : (t : Bool) (l : Option V) (x : A) → (t ≡ true → l ≡ Some mine) →
            some_has has (cond t (Some w) l) x ≡ true →
            (some_has has l x || some_has has (cond t (Some part) None) x) ≡ true
        within true l x h i = ap (λ y. some_has has y x || has part x) (h refl) ∙ b.within x i
        within false l x h i = or_left _ _ i

module _ {S A P : Type 0} (has : S → A → Bool) (excludes : A → A → Type 0)
    (is_spot : S → S → P → Type 0) where
  -- what a refused merge leaves lies between
  pub left_between : (old other new : S) (fault : MergeFault P) →
      FaultLeaves has excludes is_spot old other new fault → IsBetween has old other new
  left_between old other new (Clash spot) h = record {
    kept = λ x i. ap (λ s. has s x) h.2 ∙ i;
    within = λ x i. or_left _ _ (sym (ap (λ s. has s x) h.2) ∙ i);
  }
  left_between old other new (Memory refused) h = h.1

  -- where the two do not clash, the fault is a refusal of memory
  pub left_refused : (old other new : S) (fault : MergeFault P) →
      (Clashes has excludes old other → ⊥) →
      FaultLeaves has excludes is_spot old other new fault → TellsMemory fault
  left_refused old other new (Clash spot) apart h = absurd (apart h.0)
  left_refused old other new (Memory refused) apart h = tt
