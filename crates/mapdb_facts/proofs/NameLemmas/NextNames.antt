-- Names in their order, number by number.
use Rattle.std.specs.Prelude.{◌≡◌, ◌≢◌, ◌⊎◌, ◌==◌, ◌<◌, ◌≤◌, ◌+◌, ℕ, false, List, nat_lt, slice_get, slice_index, Option, None, Some, IfSome, IsSome, MatchOption, refl}
use Rattle.std.proofs.Common.{sym, ◌∙◌, ap, arith, subst, inl, inr}
use Rattle.std.specs.Global.{Vec}
use Rattle.std.specs.Option.{is_some}
use Rattle.std.specs.Ordering.{is_gt, is_lt, nat_cmp, ordering_then}
use Rattle.std.specs.declared.cmp.Ordering.{Ordering}
use Rattle.std.specs.declared.cmp.Ordering.TheVariants.{Equal, Greater, Less}
use Rattle.std.specs.BTreeMap.{is_at}
use Rattle.std.specs.BTreeMap.Range.{IsLeBy}
use Rattle.std.specs.Map.{lookup}
use Rattle.std.specs.Cmp.{nat_cmp_is}
use Rattle.std.proofs.lemmas.Bool.{cases_Bool, eqb-false, ltb-false, ltb-true, true≢false}
use Rattle.std.proofs.lemmas.Cmp.{ranked}
use Rattle.mapdb_join.specs.Keys.{IsAbove}
use Rattle.mapdb_facts.specs.declared.names.RecordId.{RecordId}
use Rattle.mapdb_facts.specs.Kept.{id_cmp}
use Rattle.mapdb_facts.specs.NamePlaces.{IsFrom, near_word, place_in, words_in}
use Rattle.mapdb_facts.specs.declared.name_places.NamePlaces.{NamePlaces}
use Rattle.mapdb_facts.proofs.Lists.Comparing.{at_most_from, below_from, from_below, not_below_from}

-- ---- the order of names, by number and then by processor

greater_less : Greater ≡ Less → ⊥
greater_less e = cc

pub not_greater : (a b : ℕ) → a ≤ b → is_gt (nat_cmp a b) ≡ false
not_greater a b low = by (nat_cmp a b) refl
  where
    by : (r : Ordering) → r ≡ nat_cmp a b → is_gt r ≡ false
    by Less e = refl
    by Equal e = refl
    by Greater e = let more : b < a = ranked a b Greater e in absurd (omega (arith, low, more))

module _ (a b : RecordId) where
  pub from_less : id_cmp a b ≡ Less → IsFrom a.number (a.processor + 1) b
  from_less h = by (nat_cmp a.number b.number) refl h
    where
      by : (r : Ordering) → r ≡ nat_cmp a.number b.number → ordering_then r (nat_cmp a.processor b.processor) ≡ Less → IsFrom a.number (a.processor + 1) b
      by Less e h = inl (ranked a.number b.number Less e)
      by Equal e h = let more = below_from a.processor b.processor h in inr (ranked a.number b.number Equal e, omega (arith, more))
      by Greater e h = absurd (greater_less h)

  pub less_from : IsFrom a.number (a.processor + 1) b → id_cmp a b ≡ Less
  less_from from = elim from [
    | inl lower ↦ ap (λ (o : Ordering). ordering_then o (nat_cmp a.processor b.processor)) (from_below a.number b.number lower)
    | inr same ↦
        ap (λ (o : Ordering). ordering_then o (nat_cmp a.processor b.processor)) (sym (nat_cmp_is a.number b.number Equal same.0))
        ∙ from_below a.processor b.processor (omega (arith, same.1))
  ]

  pub from_le : IsLeBy id_cmp a b → IsFrom a.number a.processor b
  from_le h = by (nat_cmp a.number b.number) refl h
    where
      by : (r : Ordering) → r ≡ nat_cmp a.number b.number → is_gt (ordering_then r (nat_cmp a.processor b.processor)) ≡ false → IsFrom a.number a.processor b
      by Less e h = inl (ranked a.number b.number Less e)
      by Equal e h = inr (ranked a.number b.number Equal e, at_most_from a.processor b.processor h)
      by Greater e h = absurd (true≢false h)

  pub le_from : IsFrom a.number a.processor b → IsLeBy id_cmp a b
  le_from from = elim from [
    | inl lower ↦ ap (λ (o : Ordering). is_gt (ordering_then o (nat_cmp a.processor b.processor))) (from_below a.number b.number lower)
    | inr same ↦
        ap (λ (o : Ordering). is_gt (ordering_then o (nat_cmp a.processor b.processor))) (sym (nat_cmp_is a.number b.number Equal same.0))
        ∙ not_greater a.processor b.processor same.1
  ]

module _ (a b : RecordId) where
  -- where one is not below another, the other does not come before it
  pub from_not_less : is_lt (id_cmp a b) ≡ false → IsFrom b.number b.processor a
  from_not_less h = by (nat_cmp a.number b.number) refl h
    where
      by : (r : Ordering) → r ≡ nat_cmp a.number b.number → is_lt (ordering_then r (nat_cmp a.processor b.processor)) ≡ false → IsFrom b.number b.processor a
      by Less e h = absurd (true≢false h)
      by Equal e h = inr (sym (ranked a.number b.number Equal e), not_below_from a.processor b.processor h)
      by Greater e h = inl (ranked a.number b.number Greater e)

  pub not_less_from : IsFrom b.number b.processor a → is_lt (id_cmp a b) ≡ false
  not_less_from from = by (id_cmp a b) refl
    where
      by : (r : Ordering) → id_cmp a b ≡ r → is_lt r ≡ false
      by Less e = absurd (elim (from_less a b e) [
        | inl lower ↦ elim from [ inl more ↦ omega (arith, lower, more) | inr same ↦ omega (arith, lower, same.0) ]
        | inr here ↦ elim from [ inl more ↦ omega (arith, here.0, more) | inr same ↦ omega (arith, here.1, same.1) ]
      ])
      by Equal e = refl
      by Greater e = refl

pub not_less_through : (a b c : RecordId) → is_lt (id_cmp a b) ≡ false → is_lt (id_cmp b c) ≡ false → is_lt (id_cmp a c) ≡ false
not_less_through a b c one other = not_less_from a c (elim (from_not_less a b one) [
  | inl lower ↦ elim (from_not_less b c other) [ inl more ↦ inl (omega (arith, lower, more)) | inr same ↦ inl (omega (arith, lower, same.0)) ]
  | inr here ↦ elim (from_not_less b c other) [ inl more ↦ inl (omega (arith, here.0, more)) | inr same ↦ inr (same.0 ∙ here.0, omega (arith, here.1, same.1)) ]
])

-- a name that is not above another is not below it
pub le_not_less : (a b : RecordId) → IsLeBy id_cmp a b → id_cmp b a ≡ Less → ⊥
le_not_less a b le less = elim (from_less b a less) [
  | inl lower ↦ elim (from_le a b le) [ inl more ↦ omega (arith, lower, more) | inr same ↦ omega (arith, lower, same.0) ]
  | inr here ↦ elim (from_le a b le) [ inl more ↦ omega (arith, here.0, more) | inr same ↦ omega (arith, here.1, same.1) ]
]

pub from_start : (q : RecordId) → IsFrom 0 0 q
from_start q = elim (cases_Bool (nat_lt 0 q.number)) [
  | inl more ↦ inl (ltb-true 0 q.number more)
  | inr none ↦ let low = ltb-false 0 q.number none in inr (omega (arith, low), omega arith)
]

pub le_through : (a b c : RecordId) → IsLeBy id_cmp a b → IsLeBy id_cmp b c → IsLeBy id_cmp a c
le_through a b c one other = le_from a c (elim (from_le a b one) [
  | inl lower ↦ elim (from_le b c other) [ inl more ↦ inl (omega (arith, lower, more)) | inr same ↦ inl (omega (arith, lower, same.0)) ]
  | inr here ↦ elim (from_le b c other) [ inl more ↦ inl (omega (arith, here.0, more)) | inr same ↦ inr (here.0 ∙ same.0, omega (arith, here.1, same.1)) ]
])

-- ---- near names

-- the near names from one spot on are those from another spot on
pub record IsWalked (near : List (Vec ℕ)) (number first at processor : ℕ) : Type 0 where
  pub kept : (q : RecordId) → near_word near q ≢ 0 → IsFrom number first q → IsFrom at processor q
  pub within : (q : RecordId) → IsFrom at processor q → IsFrom number first q

module _ (near : List (Vec ℕ)) (number first at processor : ℕ) (walked : IsWalked near number first at processor) where
  -- a word that is none under the number itself is none
  word_of : (q : RecordId) → at ≡ q.number → near_word near (record { number = at; processor = q.processor }) ≡ 0 → near_word near q ≡ 0
  word_of q same none = ap (λ n. slice_index (words_in (slice_get near q.processor)) n) (sym same) ∙ none

  module _ (none : (p : ℕ) → processor ≤ p → near_word near (record { number = at; processor = p }) ≡ 0) where
    pub walked_on : IsWalked near number first (at + 1) 0
    walked_on = record {
      kept = λ q some from. elim (walked.kept q some from) [
        | inl more ↦ elim (cases_Bool (nat_lt (at + 1) q.number)) [
          | inl above ↦ inl (ltb-true (at + 1) q.number above)
          | inr not ↦ let low = ltb-false (at + 1) q.number not in inr (omega (arith, low, more), omega arith)
        ]
        | inr same ↦ absurd (some (word_of q same.0 (none q.processor same.1)))
      ];
      within = λ q from. walked.within q (elim from [
        | inl more ↦ inl (omega (arith, more))
        | inr same ↦ inl (omega (arith, same.0))
      ]);
    }

-- ---- the lesser of a near name and a far one

-- a name that has a place is not below the near name that was found, or not below the far one
module _ (places : NamePlaces) (after : Option RecordId) (end : ℕ) (near far : Option RecordId) where
  pub place_reached : MatchOption near ((q : RecordId) → IsAbove id_cmp after q → q.number < end → near_word places.near.items q ≡ 0) (λ _. Unit {0})
      → IfSome near (λ id. (q : RecordId) → IsAbove id_cmp after q → near_word places.near.items q ≢ 0 → IsLeBy id_cmp id q)
      → MatchOption far ((q : RecordId) → IsAbove id_cmp after q → lookup (is_at (id_cmp q)) places.far.entries ≡ None) (λ _. Unit {0})
      → IfSome far (λ id. (q : RecordId) → IsAbove id_cmp after q → IsSome (lookup (is_at (id_cmp q)) places.far.entries) → IsLeBy id_cmp id q)
      → ((q : RecordId) → end ≤ q.number → (near_word places.near.items q ≡ 0) ⊎ (IsSome far × IfSome far (λ id. IsLeBy id_cmp id q)))
      → (q : RecordId) → IsAbove id_cmp after q → IsSome (place_in places q)
      → (IsSome near × IfSome near (λ a. IsLeBy id_cmp a q)) ⊎ (IsSome far × IfSome far (λ a. IsLeBy id_cmp a q))
  place_reached near_none near_least far_none far_least ends q above held = elim (cases_Bool (near_word places.near.items q == 0)) [
    | inl gone ↦ inr (by_far far far_none far_least (rw gone at held))
    | inr word ↦ elim (cases_Bool (nat_lt q.number end)) [
      | inl below ↦ inl (by_near near near_none near_least (ltb-true q.number end below) (eqb-false (near_word places.near.items q) 0 word))
      | inr not ↦ elim (ends q (ltb-false q.number end not)) [
        | inl none ↦ absurd (eqb-false (near_word places.near.items q) 0 word none)
        | inr low ↦ inr low
      ]
    ]
  ]
    where
      by_near : (o : Option RecordId) → MatchOption o ((q : RecordId) → IsAbove id_cmp after q → q.number < end → near_word places.near.items q ≡ 0) (λ _. Unit {0})
          → IfSome o (λ id. (q : RecordId) → IsAbove id_cmp after q → near_word places.near.items q ≢ 0 → IsLeBy id_cmp id q)
          → q.number < end → near_word places.near.items q ≢ 0 → IsSome o × IfSome o (λ a. IsLeBy id_cmp a q)
      by_near None none least below some = absurd (some (none q above below))
      by_near (Some a) none least below some = (refl, least q above some)

      by_far : (o : Option RecordId) → MatchOption o ((q : RecordId) → IsAbove id_cmp after q → lookup (is_at (id_cmp q)) places.far.entries ≡ None) (λ _. Unit {0})
          → IfSome o (λ id. (q : RecordId) → IsAbove id_cmp after q → IsSome (lookup (is_at (id_cmp q)) places.far.entries) → IsLeBy id_cmp id q)
          → IsSome (lookup (is_at (id_cmp q)) places.far.entries) → IsSome o × IfSome o (λ a. IsLeBy id_cmp a q)
      by_far None none least held = absurd (true≢false (sym (subst (λ p. IsSome p) (none q above) held)))
      by_far (Some a) none least held = (refl, least q above held)

pub none_of_both : (one other r : Option RecordId) (after : Option RecordId) (place : RecordId → Option ℕ)
    → MatchOption r ((one ≡ None) × (other ≡ None)) (λ _. Unit {0})
    → ((q : RecordId) → IsAbove id_cmp after q → IsSome (place q)
    → (IsSome one × IfSome one (λ a. IsLeBy id_cmp a q)) ⊎ (IsSome other × IfSome other (λ a. IsLeBy id_cmp a q)))
    → MatchOption r ((q : RecordId) → IsAbove id_cmp after q → place q ≡ None) (λ _. Unit {0})
none_of_both one other None after place none reached = λ q above. by q above (place q) refl
  where
    by : (q : RecordId) → IsAbove id_cmp after q → (o : Option ℕ) → place q ≡ o → o ≡ None
    by q above None e = refl
    by q above (Some n) e = absurd (elim (reached q above (ap is_some e)) [
      | inl near ↦ true≢false (sym near.0 ∙ ap is_some none.0)
      | inr far ↦ true≢false (sym far.0 ∙ ap is_some none.1)
    ])
none_of_both one other (Some id) after place none reached = tt

pub least_of_both : (one other r : Option RecordId) (after : Option RecordId) (place : RecordId → Option ℕ)
    → IfSome r (λ id. IfSome one (IsLeBy id_cmp id) × IfSome other (IsLeBy id_cmp id))
    → ((q : RecordId) → IsAbove id_cmp after q → IsSome (place q)
    → (IsSome one × IfSome one (λ a. IsLeBy id_cmp a q)) ⊎ (IsSome other × IfSome other (λ a. IsLeBy id_cmp a q)))
    → IfSome r (λ id. (q : RecordId) → IsAbove id_cmp after q → IsSome (place q) → IsLeBy id_cmp id q)
least_of_both one other None after place least reached = tt
least_of_both one other (Some id) after place least reached = λ q above held. elim (reached q above held) [
  | inl near ↦ by one q near.0 least.0 near.1
  | inr far ↦ by other q far.0 least.1 far.1
]
  where
    by : (o : Option RecordId) (q : RecordId) → IsSome o → IfSome o (IsLeBy id_cmp id) → IfSome o (λ a. IsLeBy id_cmp a q) → IsLeBy id_cmp id q
    by None q some le to = absurd (true≢false (sym some))
    by (Some a) q some le to = le_through id a q le to
