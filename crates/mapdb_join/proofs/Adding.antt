-- The loop that adds the keys of one set to another.
use Rattle.std.specs.Prelude.{◌≡◌, ◌↔◌, ◌⊎◌, length, Bool, true, false, cond, List, [], ◌∷◌, refl}
use Rattle.std.proofs.Common.{sym, ◌∙◌, ap, subst, inl, inr, arith}
use Rattle.std.specs.declared.cmp.Ordering.{Ordering}
use Rattle.std.specs.Ordering.{is_eq}
use Rattle.std.specs.Cmp.{IsTotalOrder, eq_by_cmp_equiv, tied_itself}
use Rattle.std.specs.BTreeMap.{is_at}
use Rattle.std.specs.BTreeSet.{BTreeSet, contains, Updates}
use Rattle.std.specs.List.{AllByRecursion, list_any}
use Rattle.std.specs.List.Sorted.{IsStrictlySortedBy}
use Rattle.std.proofs.lemmas.Bool.{or_cases, or_left, or_right, true≢false}
use Rattle.mapdb_join.specs.Atoms.{IsBetween, HasNone}
use Rattle.mapdb_join.specs.Grow.{has_key}

-- the keys of others were added to those of old, but for those of rest
pub record Added {K : Type 0} (cmp : K → K → Ordering) (old others now : BTreeSet K) (rest : List K)
    : Type 0 where
  pub left : (x : K) → contains cmp others x ≡ true →
      (contains cmp now x ≡ true) ⊎ (list_any (is_at (cmp x)) rest ≡ true)
  pub between : IsBetween (contains cmp) old others now
  pub found : AllByRecursion (λ k. contains cmp others k ≡ true) rest

keeps : (b c : Bool) → c ≡ true → cond b true c ≡ true
keeps true c h = refl
keeps false c h = h

turn : (b c : Bool) → cond b true c ≡ true → (b ≡ true) ⊎ (c ≡ true)
turn true c h = inl refl
turn false c h = inr h

-- one key more was added
pub added_next :
    {K : Type 0} {cmp : K → K → Ordering} (o : IsTotalOrder cmp) (exact : (a b : K) → is_at (cmp a) b ≡ true → a ≡ b) {old others now new : BTreeSet K} (k : K) (rest : List K) →
    Updates cmp now new k true → Added cmp old others now (k ∷ rest) → Added cmp old others new rest
added_next {cmp = cmp} o exact {others = others} {now} k rest u a = record {
  left = λ x h. elim (a.left x h) [
    | inl p ↦ inl (u.0 x ∙ keeps _ _ p)
    | inr q ↦ elim (or_cases _ _ q) [
      | inl e ↦ inl (u.0 x ∙ ap (λ b. cond b true (contains cmp now x)) ((eq_by_cmp_equiv o).symm k x ∙ e))
      | inr r ↦ inr r
    ]
  ];
  between = record {
    kept = λ x h. u.0 x ∙ keeps _ _ (a.between.kept x h);
    within = λ x h. elim (turn _ _ (sym (u.0 x) ∙ h)) [
      | inl e ↦ or_right _ _ (subst (λ y. contains cmp others y ≡ true) (exact k x e) a.found.0)
      | inr p ↦ a.between.within x p
    ];
  };
  found = a.found.1;
}

-- a set without keys has no atom
pub none_iff_empty : {K : Type 0} {cmp : K → K → Ordering} (o : IsTotalOrder cmp) (ks : List K) →
    (length ks ≡ 0) ↔ HasNone (has_key cmp) ks
none_iff_empty o [] = (λ h x. refl, λ h. refl)
none_iff_empty {cmp =
    cmp} o (k ∷ ks) = (λ h. absurd (omega arith), λ h. absurd (true≢false (sym (or_left (is_at (cmp k) k) (has_key cmp ks k) (ap is_eq (tied_itself o k))) ∙ h k)))

-- the keys of all are a program's where those of rest are
pub record ShownKeys {K : Type 0} (cmp : K → K → Ordering) (is_key : K → Type 0) (all rest : List K)
    : Type 0 where
  pub sorted : IsStrictlySortedBy cmp all
  pub left : AllByRecursion is_key rest → AllByRecursion is_key all
