-- What lists of starts have, told by the bits of their pages.
use Rattle.std.specs.Prelude.{◌≡◌, ◌↔◌, ℕ, Bool, true, false, Result, Ok, Err, OnErr, ◌&&◌, ◌||◌, ◌≤◌, ◌<◌, ◌+◌, ◌==◌, IsTrue, nat_le, nat_lt, List, [], ◌∷◌, length, refl}
use Rattle.std.proofs.Common.{sym, ◌∙◌, ap, subst, arith, inl, inr}
use Rattle.std.proofs.lemmas.Bool.{and_parts, cases_lt, false_from_ne_true, le-ltb, le-leb, leb-true, lt-ltb, ltb-true, eq-eqb, eqb-true, or_left}
use Rattle.mapdb_join.specs.Atoms.{HasNone, Includes, IsBetween, IsUnion}
use Rattle.mapdb_join.specs.Bits.{has_bit}
use Rattle.mapdb_join.specs.Lawful.Bits.{has_or, includes_or, none_zero, or_includes}
use Rattle.mapdb_join.specs.Runs.{CoversAll, HasOver, HasRegion, IsBothOf, IsOver, IsPartlyBoth, IsRuns, bits_after, has_at, in_region}
use Rattle.mapdb_join.specs.Lawful.Stepping.{below_all, there}
use Rattle.mapdb_join.specs.Lawful.United.{has_is}
use Rattle.mapdb_join.specs.declared.runs.starts.Start.{Start}

-- the first list covers the second where it has each of its atoms
pub covers_has : (a b : List Start) → IsRuns a → IsRuns b → CoversAll a b ↔ Includes has_at a b
covers_has a b r s = (
  λ c x h. has_is a x r ∙ includes_or _ _ (c x.0) x.1 (sym (has_is b x s) ∙ h),
  λ i page. or_includes _ _ (λ bit h. sym (has_is a (page, bit) r) ∙ i (page, bit) (has_is b (page, bit) s ∙ h)),
)

pub union_has : (a b c : List Start) → IsRuns a → IsRuns b → IsRuns c → IsBothOf a b c → IsUnion has_at a b c
union_has a b c r s t u x =
    has_is c x t ∙ ap (λ n. has_bit n x.1) (u x.0) ∙ has_or (bits_after 0 a x.0) (bits_after 0 b x.0) x.1
    ∙ ap (λ t. t || has_bit (bits_after 0 b x.0) x.1) (sym (has_is a x r)) ∙ ap (λ t. has_at a x || t) (sym (has_is b x s))

pub between_has : (a b c : List Start) → IsRuns a → IsRuns b → IsRuns c → IsPartlyBoth a b c → IsBetween has_at a b c
between_has a b c r s t u = record {
  kept = λ x h. elim (u x.0) [
    | inl e ↦ has_is c x t ∙ ap (λ n. has_bit n x.1) e ∙ sym (has_is a x r) ∙ h
    | inr e ↦ has_is c x t ∙ ap (λ n. has_bit n x.1) e ∙ has_or (bits_after 0 a x.0) (bits_after 0 b x.0) x.1 ∙ or_left _ _ (sym (has_is a x r) ∙ h)
  ];
  within = λ x h. elim (u x.0) [
    | inl e ↦ or_left _ _ (has_is a x r ∙ ap (λ n. has_bit n x.1) (sym e) ∙ sym (has_is c x t) ∙ h)
    | inr e ↦ ap (λ t. t || has_at b x) (has_is a x r) ∙ ap (λ t. has_bit (bits_after 0 a x.0) x.1 || t) (has_is b x s)
        ∙ sym (has_or (bits_after 0 a x.0) (bits_after 0 b x.0) x.1) ∙ ap (λ n. has_bit n x.1) (sym e) ∙ sym (has_is c x t) ∙ h
  ];
}

-- a list without starts has nothing, and no other has nothing
pub none_has : (xs : List Start) → IsRuns xs → (length xs ≡ 0) ↔ HasNone has_at xs
none_has [] r = (λ h x. rw (le-ltb x.0 0 (omega arith)) refl, λ h. refl)
none_has (s ∷ rest) r = (
  λ h. absurd (omega arith),
  λ none. absurd (r.maximal.0 (none_zero s.bits (λ bit. sym (ap (λ n. has_bit n bit) (there 0 s rest s.page (omega arith) ∙ below_all s.bits (s.page + 1) rest s.page r.ascending.1 (omega arith))) ∙ sym (has_is (s ∷ rest) (s.page, bit) r) ∙ none (s.page, bit)))),
)

region_true : (first count bits : ℕ) (p : ℕ × ℕ) → first ≤ p.0 → p.0 < first + count →
    in_region first count bits p ≡ has_bit bits p.1
region_true first count bits p lo hi = rw (le-leb first p.0 lo, lt-ltb p.0 (first + count) hi) refl

region_parts : (first count bits : ℕ) (p : ℕ × ℕ) → in_region first count bits p ≡ true →
    (first ≤ p.0) × (p.0 < first + count) × (has_bit bits p.1 ≡ true)
region_parts first count bits p h =
    let q = and_parts (nat_le first p.0 && nat_lt p.0 (first + count)) (has_bit bits p.1) h in
    let r = and_parts (nat_le first p.0) (nat_lt p.0 (first + count)) q.0 in
    (leb-true first p.0 r.0, ltb-true p.0 (first + count) r.1, q.1)

with_nothing : (a b : Bool) → b ≡ false → a ≡ (a || b)
with_nothing true b e = refl
with_nothing false b e = sym e

-- a region that is added adds its atoms
pub added_has : (old new : List Start) (first count bits : ℕ) → IsRuns old → IsRuns new → IsOver first (first + count) bits old new →
    (p : ℕ × ℕ) → has_at new p ≡ (has_at old p || in_region first count bits p)
added_has old new first count bits r s over p = elim (cases_lt p.0 first) [
  | inl l ↦ has_is new p s ∙ ap (λ n. has_bit n p.1) (over.before p.0 l) ∙ sym (has_is old p r)
      ∙ with_nothing _ _ (false_from_ne_true _ (λ h. let q = region_parts first count bits p h in absurd (omega (arith, l, q.0))))
  | inr g ↦ elim (cases_lt p.0 (first + count)) [
    | inl l ↦ has_is new p s ∙ ap (λ n. has_bit n p.1) (over.inside p.0 g l) ∙ has_or (bits_after 0 old p.0) bits p.1
        ∙ ap (λ t. t || has_bit bits p.1) (sym (has_is old p r)) ∙ ap (λ t. has_at old p || t) (sym (region_true first count bits p g l))
    | inr h ↦ has_is new p s ∙ ap (λ n. has_bit n p.1) (over.behind p.0 h) ∙ sym (has_is old p r)
        ∙ with_nothing _ _ (false_from_ne_true _ (λ k. let q = region_parts first count bits p k in absurd (omega (arith, h, q.1))))
  ]
]

pub over_region : (old : List Start) (first count bits : ℕ) → IsRuns old → HasOver first (first + count) bits old ↔ HasRegion old first count bits
over_region old first count bits r = (
  λ h p k. let q = region_parts first count bits p k in has_is old p r ∙ includes_or _ bits (h p.0 q.0 q.1) p.1 q.2,
  λ h page lo hi. or_includes _ bits (λ bit k. sym (has_is old (page, bit) r) ∙ h (page, bit) (region_true first count bits (page, bit) lo hi ∙ k)),
)

-- the same of lists that are equal to those

pub covers_told : (t : Bool) (a b mine theirs : List Start) → mine ≡ a → theirs ≡ b → IsRuns a → IsRuns b →
    IsTrue t ↔ CoversAll mine theirs → IsTrue t ↔ Includes has_at a b
covers_told t a b mine theirs e f r s h =
    let k = subst (λ l. CoversAll mine theirs ↔ CoversAll l theirs) e (λ x. x, λ x. x) in
    let m = subst (λ l. CoversAll a theirs ↔ CoversAll a l) f (λ x. x, λ x. x) in
    let n = covers_has a b r s in
    (λ x. n.0 (m.0 (k.0 (h.0 x))), λ x. h.1 (k.1 (m.1 (n.1 x))))

pub union_told : (a b mine theirs c : List Start) → mine ≡ a → theirs ≡ b → IsRuns a → IsRuns b → IsRuns c →
    IsBothOf mine theirs c → IsUnion has_at a b c
union_told a b mine theirs c e f r s t h =
    union_has a b c r s t (subst (λ l. IsBothOf a l c) f (subst (λ l. IsBothOf l theirs c) e h))

pub between_told : (a b mine theirs c : List Start) → mine ≡ a → theirs ≡ b → IsRuns a → IsRuns b → IsRuns c →
    IsPartlyBoth mine theirs c → IsBetween has_at a b c
between_told a b mine theirs c e f r s t h =
    between_has a b c r s t (subst (λ l. IsPartlyBoth a l c) f (subst (λ l. IsPartlyBoth l theirs c) e h))

pub none_told : (t : Bool) (a mine : List Start) → mine ≡ a → IsRuns a → t ≡ (length mine == 0) → IsTrue t ↔ HasNone has_at a
none_told t a mine e r h =
    let n = none_has a r in
    (λ x. n.0 (ap length (sym e) ∙ eqb-true (length mine) 0 (sym h ∙ x)), λ x. h ∙ eq-eqb (length mine) 0 (ap length e ∙ n.1 x))

pub new_told : (t : Bool) (a mine : List Start) (first count bits : ℕ) → mine ≡ a → IsRuns a →
    IsTrue t ↔ (HasOver first (first + count) bits mine → ⊥) → IsTrue t ↔ (HasRegion a first count bits → ⊥)
new_told t a mine first count bits e r h =
    let k = subst (λ l. HasOver first (first + count) bits mine ↔ HasOver first (first + count) bits l) e (λ x. x, λ x. x) in
    let n = over_region a first count bits r in
    (λ x y. h.0 x (k.1 (n.1 y)), λ x. h.1 (λ y. x (n.0 (k.0 y))))

-- what a refusal says of the list, of the runs
pub lacks_told : {E : Type 0} (r : Result Bool E) (a mine : List Start) (first count bits : ℕ) → mine ≡ a → IsRuns a
    → (HasOver first (first + count) bits mine → ⊥) → OnErr r (HasRegion a first count bits → ⊥)
lacks_told (Ok new) a mine first count bits e r h = tt
lacks_told (Err refused) a mine first count bits e r h = λ has.
    let k = subst (λ l. HasOver first (first + count) bits mine ↔ HasOver first (first + count) bits l) e (λ x. x, λ x. x) in
    let n = over_region a first count bits r in
    h (k.1 (n.1 has))

pub has_told : (t : Bool) (a mine : List Start) (first count bits : ℕ) → mine ≡ a → IsRuns a →
    IsTrue t ↔ HasOver first (first + count) bits mine → IsTrue t ↔ HasRegion a first count bits
has_told t a mine first count bits e r h =
    let k = subst (λ l. HasOver first (first + count) bits mine ↔ HasOver first (first + count) bits l) e (λ x. x, λ x. x) in
    let n = over_region a first count bits r in
    (λ x. n.0 (k.0 (h.0 x)), λ x. h.1 (k.1 (n.1 x)))
