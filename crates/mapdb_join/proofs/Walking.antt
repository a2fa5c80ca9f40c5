-- Loops that walk the entries of a map in order.
use Rattle.std.specs.Prelude.{◌≡◌, ◌↔◌, ◌⊎◌, Bool, true, false, cond, ◌||◌, ◌&&◌, List, [], ◌∷◌, Option, Some, None, IfSome, refl}
use Rattle.std.proofs.Common.{sym, ◌∙◌, ap, subst, inl, inr, Bor}
use Rattle.std.specs.Option.{option_copied}
use Rattle.std.specs.declared.cmp.Ordering.{Ordering}
use Rattle.std.specs.declared.cmp.Ordering.TheVariants.{Less}
use Rattle.std.specs.Ordering.{is_eq}
use Rattle.std.specs.Cmp.{IsTotalOrder, both_ways, tied_itself}
use Rattle.std.specs.BTreeMap.{is_at}
use Rattle.std.specs.Map.{lookup, keys_of}
use Rattle.std.specs.List.{AllByRecursion, list_any}
use Rattle.std.specs.List.Sorted.{IsStrictlySortedBy}
use Rattle.std.proofs.lemmas.Map.Keys.{sorted_head, sorted_tail}
use Rattle.std.proofs.lemmas.Bool.{or_cases, or_left, or_right, and_parts, and_from, true≢false, false_from_ne_true}
use Rattle.mapdb_join.specs.Atoms.{Includes, IsUnion, IsBetween, HasNone, Clashes, IsExclusion}
use Rattle.mapdb_join.specs.Entries.{some_has, has_under, excludes_under, IsFirstClash, IsMap}
use Rattle.mapdb_join.specs.Lawful.Entries.{exclusion_under}
use Rattle.mapdb_join.specs.Clashing.{NoneApart, IsClashUnder}

module _ {K V A : Type 0} (cmp : K → K → Ordering) (has : V → A → Bool) where
  -- whether the entry has the atom
  abbrev pub in_entry : K × A → K × V → Bool
  in_entry p e = is_at (cmp p.0) e.0 && has e.1 p.1

module _ {K V A : Type 0} (cmp : K → K → Ordering) (has : V → A → Bool) where
  -- whether some entry has the atom
  abbrev pub any_entry : List (K × V) → K × A → Bool
  any_entry es p = list_any (in_entry cmp has p) es

  any_at : (b : Bool) (v : V) (o : Option V) (x : A) (r : Bool) →
      (some_has has o x ≡ true → r ≡ true) → some_has has (cond b (Some v) o) x ≡ true →
      ((b && has v x) || r) ≡ true
  any_at true v o x r f h = or_left _ _ h
  any_at false v o x r f h = f h

  -- what the map has, an entry has
  pub any_from_has : (es : List (K × V)) (p : K × A) → has_under cmp has es p ≡ true →
      any_entry es p ≡ true
  any_from_has [] p h = h
  any_from_has (e ∷ es) p h =
      any_at (is_at (cmp p.0) e.0) e.1 (lookup (is_at (cmp p.0)) es) p.1 (any_entry es p) (any_from_has es p) h

  one_at : (b : Bool) (v : V) (x : A) → (b && has v x) ≡ true →
      some_has has (cond b (Some v) None) x ≡ true
  one_at true v x h = h
  one_at false v x h = h

  pub from_one_at : (b : Bool) (v : V) (x : A) → some_has has (cond b (Some v) None) x ≡ true →
      (b ≡ true) × (has v x ≡ true)
  from_one_at true v x h = (refl, h)
  from_one_at false v x h = absurd (true≢false (sym h))

  pub any_cases : (e : K × V) (es : List (K × V)) (p : K × A) → any_entry (e ∷ es) p ≡ true →
      (has_under cmp has (e ∷ []) p ≡ true) ⊎ (any_entry es p ≡ true)
  any_cases e es p h =
      elim (or_cases (in_entry cmp has p e) (any_entry es p) h) [ inl q ↦ inl (one_at (is_at (cmp p.0) e.0) e.1 p.1 q) | inr q ↦ inr q ]

  module _ (exact : (a b : K) → is_at (cmp a) b ≡ true → a ≡ b) where
    -- an entry that is found has no atom that the map lacks
    pub entry_in : (others : List (K × V)) (e : K × V) →
        lookup (is_at (cmp e.0)) others ≡ Some e.1 → Includes (has_under cmp has) others (e ∷ [])
    entry_in others e found p h =
        let q = from_one_at (is_at (cmp p.0) e.0) e.1 p.1 h in
        ap (λ k. some_has has (lookup (is_at (cmp k)) others) p.1) (exact p.0 e.0 q.0) ∙ ap (λ o. some_has has o p.1) found ∙ q.1

  module _ (o : IsTotalOrder cmp) where
    at_itself : (k : K) → is_at (cmp k) k ≡ true
    at_itself k = ap is_eq (tied_itself o k)

    -- an entry alone has the atoms of its value
    pub entry_has : (k : K) (v : V) (x : A) → has v x ≡ true →
        has_under cmp has ((k, v) ∷ []) (k, x) ≡ true
    entry_has k v x h = one_at (is_at (cmp k) k) v x (and_from _ _ (at_itself k) h)

-- the entries of rest are found among others
abbrev pub AreFound : {K V : Type 0} (cmp : K → K → Ordering) → List (K × V) → List (K × V) → Type 0
AreFound cmp others rest = AllByRecursion (λ e. lookup (is_at (cmp e.0)) others ≡ Some e.1) rest

-- the map has what others has, but for what rest has
pub record Covered {K V A : Type 0} (cmp : K → K → Ordering) (has : V → A → Bool)
    (map others rest : List (K × V)) : Type 0 where
  pub left : (p : K × A) → has_under cmp has others p ≡ true →
      (has_under cmp has map p ≡ true) ⊎ (any_entry cmp has rest p ≡ true)
  pub found : AreFound cmp others rest

module _ {K V A : Type 0} {cmp : K → K → Ordering} {has : V → A → Bool} where
  pub covered_first : (map others : List (K × V)) → AreFound cmp others others →
      Covered cmp has map others others
  covered_first map others f =
      record { left = λ p h. inr (any_from_has cmp has others p h); found = f }

  pub covered_last : {map others : List (K × V)} → Covered cmp has map others [] →
      Includes (has_under cmp has) map others
  covered_last a p h = elim (a.left p h) [ inl q ↦ q | inr q ↦ absurd (true≢false (sym q)) ]

  pub covered_next : {map others : List (K × V)} (e : K × V) (rest : List (K × V)) →
      Includes (has_under cmp has) map (e ∷ []) → Covered cmp has map others (e ∷ rest) →
      Covered cmp has map others rest
  covered_next e rest i a = record {
    left = λ p h. elim (a.left p h) [ inl q ↦ inl q | inr q ↦ elim (any_cases cmp has e rest p q) [ inl r ↦ inl (i p r) | inr r ↦ inr r ] ];
    found = a.found.1;
  }

-- the entries of others were merged into those of old, but for those of rest
pub record Merged {K V A : Type 0} (cmp : K → K → Ordering) (has : V → A → Bool)
    (old others now rest : List (K × V)) : Type 0 where
  pub covered : Covered cmp has now others rest
  pub between : IsBetween (has_under cmp has) old others now

module _ {K V A : Type 0} {cmp : K → K → Ordering} {has : V → A → Bool} where
  pub merged_first : (old others : List (K × V)) → AreFound cmp others others →
      Merged cmp has old others old others
  merged_first old others f =
      record { covered = covered_first old others f; between = record { kept = λ p h. h; within = λ p h. or_left _ _ h } }

  pub merged_last : {old others now : List (K × V)} → Merged cmp has old others now [] →
      IsUnion (has_under cmp has) old others now
  merged_last a p =
      both_ways _ _ (a.between.within p) (λ h. elim (or_cases _ _ h) [ inl q ↦ a.between.kept p q | inr q ↦ covered_last a.covered p q ])

  module _ (exact : (a b : K) → is_at (cmp a) b ≡ true → a ≡ b) where
    -- one entry more was merged, or a part of it
    pub between_next : {old others now new : List (K × V)} (e : K × V) (rest : List (K × V)) →
        IsBetween (has_under cmp has) now (e ∷ []) new → Merged cmp has old others now (e ∷ rest) →
        IsBetween (has_under cmp has) old others new
    between_next {others = others} e rest b a = record {
      kept = λ p h. b.kept p (a.between.kept p h);
      within = λ p h. elim (or_cases _ _ (b.within p h)) [ inl q ↦ a.between.within p q | inr q ↦ or_right _ _ (entry_in cmp has exact others e a.covered.found.0 p q) ];
    }

    pub merged_next : {old others now new : List (K × V)} (e : K × V) (rest : List (K × V)) →
        IsUnion (has_under cmp has) now (e ∷ []) new → Merged cmp has old others now (e ∷ rest) →
        Merged cmp has old others new rest
    merged_next e rest u a = record {
      covered = record {
        left = λ p h. elim (a.covered.left p h) [
          | inl q ↦ inl (u p ∙ or_left _ _ q)
          | inr q ↦ elim (any_cases cmp has e rest p q) [ inl r ↦ inl (u p ∙ or_right _ _ r) | inr r ↦ inr r ]
        ];
        found = a.covered.found.1;
      };
      between = between_next e rest (record { kept = λ p h. u p ∙ or_left _ _ h; within = λ p h. sym (u p) ∙ h }) a;
    }

    -- the next entry does not clash with what was merged
    pub merged_apart : (excludes : A → A → Type 0) → IsExclusion has excludes → IsTotalOrder cmp →
        {old others now : List (K × V)} (e : K × V) (rest : List (K × V)) →
        Merged cmp has old others now (e ∷ rest) →
        (Clashes (has_under cmp has) (excludes_under excludes) old others → ⊥) →
        IfSome (lookup (is_at (cmp e.0)) now) (λ mine. Clashes has excludes mine e.1 → ⊥)
    merged_apart excludes law o {old} {others} {now} e rest a apart =
        held (lookup (is_at (cmp e.0)) now) refl
      where
        theirs : (y : A) → has e.1 y ≡ true → has_under cmp has others (e.0, y) ≡ true
        theirs y h = ap (λ w. some_has has w y) a.covered.found.0 ∙ h

        clashes : (mine : V) → lookup (is_at (cmp e.0)) now ≡ Some mine →
            Clashes has excludes mine e.1 → ⊥
        clashes mine at c = elim (or_cases _ _ (a.between.within (e.0, c.one) (ap (λ w. some_has has w c.one) at ∙ c.has_one))) [
          | inl q ↦ apart (record { one = (e.0, c.one); other = (e.0, c.other); has_one = q; has_other = theirs c.other c.has_other; apart = (refl, c.apart) })
          | inr q ↦ (exclusion_under cmp has excludes law).sound others (e.0, c.one) (e.0, c.other) q (theirs c.other c.has_other) (refl, c.apart)
        ]

        held : (w : Option V) → lookup (is_at (cmp e.0)) now ≡ w →
            IfSome w (λ mine. Clashes has excludes mine e.1 → ⊥)
        held None at = tt
        held (Some mine) at = clashes mine at

-- no entry of rest is below e
above :
    {K V A : Type 0} {cmp : K → K → Ordering} (has : V → A → Bool) (o : IsTotalOrder cmp) (e : K × V) (rest : List (K × V)) →
    AllByRecursion (λ y. cmp e.0 y ≡ Less) (keys_of rest) → (k : K) (y : A) → cmp k e.0 ≡ Less →
    any_entry cmp has rest (k, y) ≡ true → ⊥
above has o e [] s k y l h = true≢false (sym h)
above {cmp = cmp} has o e (f ∷ rest) s k y l h = elim (or_cases (in_entry cmp has (k, y) f) (any_entry cmp has rest (k, y)) h) [
  | inl q ↦ let r = and_parts (is_at (cmp k) f.0) (has f.1 y) q in true≢false (sym r.0 ∙ ap is_eq (o.trans k e.0 f.0 l s.0))
  | inr q ↦ above has o e rest s.1 k y l q
]

-- all clashes of the map with others are with entries of rest, which ascend
pub record Parted {K V A : Type 0} (cmp : K → K → Ordering) (has : V → A → Bool)
    (excludes : A → A → Type 0) (map others rest : List (K × V)) : Type 0 where
  pub left : (k : K) (x y : A) → has_under cmp has map (k, x) ≡ true →
      has_under cmp has others (k, y) ≡ true → excludes x y → any_entry cmp has rest (k, y) ≡ true
  pub found : AreFound cmp others rest
  pub sorted : IsStrictlySortedBy cmp (keys_of rest)

module _ {K V A : Type 0} {cmp : K → K → Ordering} {has : V → A → Bool} {excludes : A → A → Type 0}
  where
    pub parted_first : (map others : List (K × V)) → AreFound cmp others others →
        IsStrictlySortedBy cmp (keys_of others) → Parted cmp has excludes map others others
    parted_first map others f s =
        record { left = λ k x y h i e. any_from_has cmp has others (k, y) i; found = f; sorted = s }

    pub parted_last : {map others : List (K × V)} → Parted cmp has excludes map others [] →
        Clashes (has_under cmp has) (excludes_under excludes) map others → ⊥
    parted_last {map} {others} a c =
        true≢false (sym (a.left c.other.0 c.one.1 c.other.1 (subst (λ k. has_under cmp has map (k, c.one.1) ≡ true) c.apart.0 c.has_one) c.has_other c.apart.1))

    module _ (exact : (a b : K) → is_at (cmp a) b ≡ true → a ≡ b) where
      pub parted_next : {map others : List (K × V)} (e : K × V) (rest : List (K × V)) →
          NoneApart cmp has excludes map e.0 e.1 → Parted cmp has excludes map others (e ∷ rest) →
          Parted cmp has excludes map others rest
      parted_next {map} e rest none a = record {
        left = λ k x y h i d. elim (or_cases (in_entry cmp has (k, y) e) (any_entry cmp has rest (k, y)) (a.left k x y h i d)) [
          | inl q ↦ let r = and_parts (is_at (cmp k) e.0) (has e.1 y) q in absurd (none x y (subst (λ z. has_under cmp has map (z, x) ≡ true) (exact k e.0 r.0) h) r.1 d)
          | inr q ↦ q
        ];
        found = a.found.1;
        sorted = sorted_tail cmp e.0 (keys_of rest) a.sorted;
      }

      pub parted_found :
          {P : Type 0} {is_spot : V → V → P → Type 0} (o : IsTotalOrder cmp) {map others : List (K × V)} (e : K × V) (rest : List (K × V)) (s : P) →
          IsClashUnder cmp has excludes is_spot map e.0 e.1 s →
          Parted cmp has excludes map others (e ∷ rest) →
          Clashes (has_under cmp has) (excludes_under excludes) map others × IsFirstClash cmp has excludes is_spot map others (e.0, s)
      parted_found o {map} {others} e rest s u a = (
        record {
          one = (e.0, u.clash.one);
          other = (e.0, u.clash.other);
          has_one = ap (λ w. some_has has w u.clash.one) u.held ∙ u.clash.has_one;
          has_other = ap (λ w. some_has has w u.clash.other) a.found.0 ∙ u.clash.has_other;
          apart = (refl, u.clash.apart);
        },
        record {
          first = u.mine;
          second = e.1;
          in_first = u.held;
          in_second = a.found.0;
          clash = u.clash;
          there = u.there;
          least = λ q x y l h i d. elim (or_cases (in_entry cmp has (q, y) e) (any_entry cmp has rest (q, y)) (a.left q x y h i d)) [
            | inl r ↦ true≢false (sym (and_parts (is_at (cmp q) e.0) (has e.1 y) r).0 ∙ ap is_eq l)
            | inr r ↦ above has o e rest (sorted_head cmp e.0 (keys_of rest) a.sorted) q y l r
          ];
        },
      )

module _ {K V A : Type 0} {cmp : K → K → Ordering} (has : V → A → Bool)
    (exact : (a b : K) → is_at (cmp a) b ≡ true → a ≡ b) (o : IsTotalOrder cmp) where
  -- an entry against the value under its key
  pub covers_held : (map : List (K × V)) (k : K) (v mine : V) →
      lookup (is_at (cmp k)) map ≡ Some mine →
      Includes has mine v ↔ Includes (has_under cmp has) map ((k, v) ∷ [])
  covers_held map k v mine at = (
    (λ i p h. let q =
        from_one_at cmp has (is_at (cmp p.0) k) v p.1 h in ap (λ z. some_has has (lookup (is_at (cmp z)) map) p.1) (exact p.0 k q.0)
        ∙ ap (λ w. some_has has w p.1) at ∙ i p.1 q.1),
    (λ i x h. ap (λ w. some_has has w x) (sym at) ∙ i (k, x) (entry_has cmp has o k v x h)),
  )

  pub covers_absent : (map : List (K × V)) (k : K) (v : V) → lookup (is_at (cmp k)) map ≡ None →
      HasNone has v ↔ Includes (has_under cmp has) map ((k, v) ∷ [])
  covers_absent map k v at = (
    (λ n p h. let q =
        from_one_at cmp has (is_at (cmp p.0) k) v p.1 h in absurd (true≢false (sym q.1 ∙ n p.1))),
    (λ i x. false_from_ne_true _ (λ h. true≢false (sym (i (k, x) (entry_has cmp has o k v x h)) ∙ ap (λ w. some_has has w x) at))),
  )

module _ {V : Type 0} {o : Option V} where
  pub held_from : {r : Option (Bor V)} {v : Bor V} → r ≡ Some v → option_copied r ≡ o →
      o ≡ Some v.now
  held_from is h = sym h ∙ ap option_copied is

  pub absent_from : {r : Option (Bor V)} → r ≡ None → option_copied r ≡ o → o ≡ None
  absent_from is h = sym h ∙ ap option_copied is

-- a map without atoms has no value with one
pub none_of_entry :
    {K V A : Type 0} (cmp : K → K → Ordering) (has : V → A → Bool) {map others rest : List (K × V)} {e : K × V} →
    Covered cmp has map others (e ∷ rest) → HasNone (has_under cmp has) others → HasNone has e.1
none_of_entry cmp has {e = e} a none x = sym (ap (λ w. some_has has w x) a.found.0) ∙ none (e.0, x)

-- the entries of all are a program's where those of rest are
pub record Shown {K V : Type 0} (cmp : K → K → Ordering) (is_key : K → Type 0)
    (is_value : V → Type 0) (all rest : List (K × V)) : Type 0 where
  pub sorted : IsStrictlySortedBy cmp (keys_of all)
  pub left : AllByRecursion (λ e. is_key e.0 × is_value e.1) rest →
      AllByRecursion (λ e. is_key e.0 × is_value e.1) all

module _ {K V : Type 0} {cmp : K → K → Ordering} {is_key : K → Type 0} {is_value : V → Type 0}
    {all : List (K × V)} where
  pub shown_first : IsStrictlySortedBy cmp (keys_of all) → Shown cmp is_key is_value all all
  shown_first s = record { sorted = s; left = λ h. h }

  pub shown_next : (e : K × V) (rest : List (K × V)) → is_key e.0 → is_value e.1 →
      Shown cmp is_key is_value all (e ∷ rest) → Shown cmp is_key is_value all rest
  shown_next e rest k v a = record { sorted = a.sorted; left = λ h. a.left ((k, v), h) }

  pub shown_last : Shown cmp is_key is_value all [] → IsMap cmp is_key is_value all
  shown_last a = record { sorted = a.sorted; all = a.left tt }
