-- What is found by a name among values that stand at places, with no list of the names.
use Rattle.std.proofs.Common.{◌≡◌, ℕ, zero, suc, ◌<◌, List, [], ◌∷◌, ◌++◌, length, set, refl, ap, subst, sym, ◌∙◌, Bool, true, false, cond, inl, inr, arith}
use Rattle.std.specs.Prelude.{Option, None, Some, ◌||◌, ◌⊎◌, map, slice_get}
use Rattle.std.specs.List.{list_any}
use Rattle.std.specs.Map.{lookup}
use Rattle.std.proofs.lemmas.Bool.{cases_Bool, cond-false, cond-true, false≢true, or_left, or_right, true≢false}
use Rattle.std.proofs.lemmas.List.{length_push}
use Rattle.mapdb_facts.specs.ByName.{IsOneToOne, value_at, with_value, with_values}

none_either : {V : Type 0} (b : Bool) → ◌≡◌ {A = Option V} (cond b None None) None
none_either true = refl
none_either false = refl

-- ---- lists that are one more, or have another in its place

some_not_none : {V : Type 0} (v : V) → Some v ≡ None → ⊥
some_not_none v e = cc

past : {V : Type 0} (values : List V) (v : V) → slice_get (values ++ v ∷ []) (length values) ≡ Some v
past [] v = refl
past (x ∷ values) v = past values v

before : {V : Type 0} (values : List V) (v : V) (at : ℕ) → at < length values → slice_get (values ++ v ∷ []) at ≡ slice_get values at
before [] v at within = absurd (omega (arith, within))
before (x ∷ values) v zero within = refl
before (x ∷ values) v (suc at) within = before values v at (omega (arith, within))

set_here : {V : Type 0} (values : List V) (at : ℕ) (v : V) → at < length values → slice_get (set values at v) at ≡ Some v
set_here [] at v within = absurd (omega (arith, within))
set_here (x ∷ values) zero v within = refl
set_here (x ∷ values) (suc at) v within = set_here values at v (omega (arith, within))

set_there : {V : Type 0} (values : List V) (at other : ℕ) (v : V) → (at ≡ other → ⊥) → slice_get (set values at v) other ≡ slice_get values other
set_there [] at other v apart = refl
set_there (x ∷ values) zero zero v apart = absurd (apart refl)
set_there (x ∷ values) zero (suc other) v apart = refl
set_there (x ∷ values) (suc at) zero v apart = refl
set_there (x ∷ values) (suc at) (suc other) v apart = set_there values at other v (λ e. apart (ap suc e))

within_some : {V : Type 0} (values : List V) (at : ℕ) → at < length values → slice_get values at ≡ None → ⊥
within_some [] at within h = omega (arith, within)
within_some (x ∷ values) zero within h = some_not_none x h
within_some (x ∷ values) (suc at) within h = within_some values at (omega (arith, within)) h

-- ---- one of a list

pub any_in_front : {K : Type 0} (test : K → Bool) (a b : List K) → list_any test a ≡ true → list_any test (a ++ b) ≡ true
any_in_front test [] b h = absurd (false≢true h)
any_in_front test (x ∷ a) b h = elim (cases_Bool (test x)) [
  | inl here ↦ or_left (test x) (list_any test (a ++ b)) here
  | inr other ↦ or_right (test x) (list_any test (a ++ b)) (any_in_front test a b (ap (λ t. t || list_any test a) (sym other) ∙ h))
]

pub any_behind : {K : Type 0} (test : K → Bool) (a b : List K) → list_any test b ≡ true → list_any test (a ++ b) ≡ true
any_behind test [] b h = h
any_behind test (x ∷ a) b h = or_right (test x) (list_any test (a ++ b)) (any_behind test a b h)

-- where no name has a value, there are none
pub none_have : {K V : Type 0} (value : K → Option V) (ids : List K) → ((id : K) → value id ≡ None) → with_values value ids ≡ []
none_have value [] none = refl
none_have value (id ∷ ids) none = ap (λ o. with_value id o (with_values value ids)) (none id) ∙ none_have value ids none

module _ {K : Type 0} (same : K → K → Bool) (exact : (a b : K) → same a b ≡ true → a ≡ b) (itself : (a : K) → same a a ≡ true) where
  module _ {V : Type 0} (value : K → Option V) (q : K) where
    found_in_front : (id : K) (o : Option V) (rest : List (K × V)) (later : Bool) → value id ≡ o
        → lookup (same q) rest ≡ cond later (value q) None
        → lookup (same q) (with_value id o rest) ≡ cond (same q id || later) (value q) None
    found_in_front id None rest later e behind = elim (cases_Bool (same q id)) [
      | inl here ↦
          let nothing : value q ≡ None = ap value (exact q id here) ∙ e in
          behind
          ∙ ap (λ o. cond later o None) nothing
          ∙ none_either later
          ∙ sym nothing
          ∙ ap (λ b. cond (b || later) (value q) None) (sym here)
      | inr other ↦ behind ∙ ap (λ b. cond (b || later) (value q) None) (sym other)
    ]
    found_in_front id (Some v) rest later e behind = elim (cases_Bool (same q id)) [
      | inl here ↦
          cond-true (same q id) (Some v) (lookup (same q) rest) here
          ∙ sym (ap value (exact q id here) ∙ e)
          ∙ ap (λ b. cond (b || later) (value q) None) (sym here)
      | inr other ↦
          cond-false (same q id) (Some v) (lookup (same q) rest) other
          ∙ behind
          ∙ ap (λ b. cond (b || later) (value q) None) (sym other)
    ]

    -- a name that is among these is found with its value, and no other one is
    found_among : (ids : List K) → lookup (same q) (with_values value ids) ≡ cond (list_any (same q) ids) (value q) None
    found_among [] = refl
    found_among (id ∷ ids) = found_in_front id (value id) (with_values value ids) (list_any (same q) ids) refl (found_among ids)

  -- a name that is found is one of those that are known
  pub found_known : {X : Type 0} (q : K) (entries : List (K × X)) (x : X) → lookup (same q) entries ≡ Some x → list_any (same q) (map (λ e. e.0) entries) ≡ true
  found_known q [] x h = cc
  found_known q (e ∷ entries) x h = elim (cases_Bool (same q e.0)) [
    | inl here ↦ or_left (same q e.0) _ here
    | inr other ↦ or_right (same q e.0) _ (found_known q entries x (sym (cond-false (same q e.0) (Some e.1) (lookup (same q) entries) other) ∙ h))
  ]

  -- names whose places are known, with the values there
  module _ (place : K → Option ℕ) (known : List K) (all : (q : K) (at : ℕ) → place q ≡ Some at → list_any (same q) known ≡ true) where
    module _ {V : Type 0} (values : List V) (q : K) where
      held : (o : Option ℕ) → place q ≡ o → cond (list_any (same q) known) (value_at values o) None ≡ value_at values o
      held None e = none_either (list_any (same q) known)
      held (Some at) e = cond-true (list_any (same q) known) (slice_get values at) None (all q at e)

      -- what is found by a name is the value at its place
      pub value_found : lookup (same q) (with_values (λ id. value_at values (place id)) known) ≡ value_at values (place q)
      value_found = found_among (λ id. value_at values (place id)) q known ∙ held (place q) refl

    pub no_place_found : {V : Type 0} (values : List V) (q : K) → place q ≡ None → None ≡ lookup (same q) (with_values (λ id. value_at values (place id)) known)
    no_place_found values q none = ap (value_at values) (sym none) ∙ sym (value_found values q)

    module _ {V : Type 0} (values : List V) (are : IsOneToOne place (length values)) where
      -- a name without a value has no place
      unplaced_at : (q : K) (o : Option ℕ) → place q ≡ o → value_at values o ≡ None → place q ≡ None
      unplaced_at q None e none = e
      unplaced_at q (Some at) e none = absurd (within_some values at (are.below q at e) none)

      pub unplaced : (q : K) → lookup (same q) (with_values (λ id. value_at values (place id)) known) ≡ None → place q ≡ None
      unplaced q none = unplaced_at q (place q) refl (sym (value_found values q) ∙ none)

      -- another value stands at the place of a name
      module _ (id : K) (at : ℕ) (placed : place id ≡ Some at) where
        pub place_below : at < length values
        place_below = are.below id at placed

        pub placed_value : slice_get values at ≡ lookup (same id) (with_values (λ id. value_at values (place id)) known)
        placed_value = ap (value_at values) (sym placed) ∙ sym (value_found values id)

        other_value : (v : V) (q : K) (o : Option ℕ) → place q ≡ o → same id q ≡ false → value_at (set values at v) o ≡ value_at values o
        other_value v q None e other = refl
        other_value v q (Some n) e other = set_there values at n v (λ here.
            true≢false (sym (subst (λ x. same id x ≡ true) (are.apart id q n (placed ∙ ap Some here) e) (itself id)) ∙ other))

        pub value_given : (v : V) (q : K) → lookup (same q) (with_values (λ id. value_at (set values at v) (place id)) known)
            ≡ cond (same id q) (Some v) (lookup (same q) (with_values (λ id. value_at values (place id)) known))
        value_given v q = value_found (set values at v) q ∙ elim (cases_Bool (same id q)) [
          | inl here ↦
              ap (λ k. value_at (set values at v) (place k)) (sym (exact id q here))
              ∙ ap (value_at (set values at v)) placed
              ∙ set_here values at v place_below
              ∙ sym (cond-true (same id q) (Some v) (lookup (same q) (with_values (λ id. value_at values (place id)) known)) here)
          | inr other ↦
              other_value v q (place q) refl other
              ∙ sym (value_found values q)
              ∙ sym (cond-false (same id q) (Some v) (lookup (same q) (with_values (λ id. value_at values (place id)) known)) other)
        ]

      -- the last place is given to a name
      module _ (wider : K → Option ℕ) (more : List K) (all_more : (q : K) (at : ℕ) → wider q ≡ Some at → list_any (same q) more ≡ true)
          (id : K) (v : V) (at : ℕ) (end : at ≡ length values) (put : (q : K) → wider q ≡ cond (same id q) (Some at) (place q)) where
        kept_value : (q : K) (o : Option ℕ) → place q ≡ o → value_at (values ++ v ∷ []) o ≡ value_at values o
        kept_value q None e = refl
        kept_value q (Some n) e = before values v n (are.below q n e)

        value_more : (q : K) → value_at (values ++ v ∷ []) (wider q) ≡ cond (same id q) (Some v) (value_at values (place q))
        value_more q = elim (cases_Bool (same id q)) [
          | inl here ↦
              ap (value_at (values ++ v ∷ [])) (put q ∙ cond-true (same id q) (Some at) (place q) here)
              ∙ ap (slice_get (values ++ v ∷ [])) end
              ∙ past values v
              ∙ sym (cond-true (same id q) (Some v) (value_at values (place q)) here)
          | inr other ↦
              ap (value_at (values ++ v ∷ [])) (put q ∙ cond-false (same id q) (Some at) (place q) other)
              ∙ kept_value q (place q) refl
              ∙ sym (cond-false (same id q) (Some v) (value_at values (place q)) other)
        ]

        either_place : (q : K) (n : ℕ) → wider q ≡ Some n → ((id ≡ q) × (n ≡ length values)) ⊎ (place q ≡ Some n)
        either_place q n e = elim (cases_Bool (same id q)) [
          | inl here ↦ inl (exact id q here, at_end n (sym (put q ∙ cond-true (same id q) (Some at) (place q) here) ∙ e))
          | inr other ↦ inr (sym (put q ∙ cond-false (same id q) (Some at) (place q) other) ∙ e)
        ]
          where
            at_end : (n : ℕ) → Some at ≡ Some n → n ≡ length values
            at_end n h = let here : at ≡ n = cc in omega (arith, here, end)

        pub places_more : IsOneToOne wider (length (values ++ v ∷ []))
        places_more = record {
          below = λ q n e. elim (either_place q n e) [
            | inl new ↦ omega (arith, new.1, length_push values v)
            | inr old ↦ omega (arith, are.below q n old, length_push values v)
          ];
          apart = λ a b n one two. elim (either_place a n one) [
            | inl new ↦ elim (either_place b n two) [
              | inl new2 ↦ sym new.0 ∙ new2.0
              | inr old ↦ absurd (omega (arith, new.1, are.below b n old))
            ]
            | inr old ↦ elim (either_place b n two) [
              | inl new ↦ absurd (omega (arith, new.1, are.below a n old))
              | inr old2 ↦ are.apart a b n old old2
            ]
          ];
        }

  module _ (place : K → Option ℕ) (known : List K) (all : (q : K) (at : ℕ) → place q ≡ Some at → list_any (same q) known ≡ true)
      (other : K → Option ℕ) (others : List K) (all_others : (q : K) (at : ℕ) → other q ≡ Some at → list_any (same q) others ≡ true) {V : Type 0} (values : List V) where
    -- where each name has its place still, it has its value still
    pub found_kept : ((q : K) → other q ≡ place q) → (q : K)
        → lookup (same q) (with_values (λ id. value_at values (other id)) others) ≡ lookup (same q) (with_values (λ id. value_at values (place id)) known)
    found_kept kept q = value_found other others all_others values q ∙ ap (value_at values) (kept q) ∙ sym (value_found place known all values q)

    -- the last place was given to a name, with a value
    pub found_more : (are : IsOneToOne place (length values)) (id : K) (v : V) (at : ℕ) (end : at ≡ length values) → ((q : K) → other q ≡ cond (same id q) (Some at) (place q))
        → (q : K) → lookup (same q) (with_values (λ id. value_at (values ++ v ∷ []) (other id)) others)
        ≡ cond (same id q) (Some v) (lookup (same q) (with_values (λ id. value_at values (place id)) known))
    found_more are id v at end put q =
        value_found other others all_others (values ++ v ∷ []) q
        ∙ value_more place known all values are other others all_others id v at end put q
        ∙ ap (cond (same id q) (Some v)) (sym (value_found place known all values q))

-- names that have the places that they had have them to themselves
pub one_to_one_kept : {K : Type 0} (place other : K → Option ℕ) (count : ℕ) → ((q : K) → other q ≡ place q) → IsOneToOne place count → IsOneToOne other count
one_to_one_kept place other count kept are = record {
  below = λ q n e. are.below q n (sym (kept q) ∙ e);
  apart = λ a b n one two. are.apart a b n (sym (kept a) ∙ one) (sym (kept b) ∙ two);
}
