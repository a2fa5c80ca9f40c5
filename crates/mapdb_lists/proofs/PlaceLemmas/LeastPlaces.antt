-- The least of places that pass a test: found one by one, and as a search in their order shows it.
use Rattle.std.proofs.Common.{◌≡◌, ℕ, ◌+◌, ◌<◌, Bool, true, false, refl, sym, ap, subst, List, [], ◌∷◌, ◌++◌, get_or, take, length, ◌∙◌, inl, inr}
use Rattle.std.specs.Prelude.{◌⊎◌, ◌&&◌, ◌||◌, Option, None, Some, filter, if◌then◌else◌}
use Rattle.std.specs.BTreeMap.{is_at}
use Rattle.std.specs.BTreeMap.Range.{IsFromStart, is_from_start, range_contains}
use Rattle.std.specs.BTreeSet.{BTreeSet, IsKeyRangeOf}
use Rattle.std.specs.List.{AllByRecursion, list_any}
use Rattle.std.specs.List.Sorted.{IsStrictlySortedBy}
use Rattle.std.specs.Ordering.{is_eq, is_gt, is_lt}
use Rattle.std.specs.declared.cmp.Ordering.{Ordering}
use Rattle.std.specs.declared.cmp.Ordering.TheVariants.{Equal, Greater, Less}
use Rattle.std.specs.declared.ops.Bound.{Bound}
use Rattle.std.specs.declared.ops.Bound.TheVariants.{Excluded, Included, Unbounded}
use Rattle.std.proofs.lemmas.Bool.{and_parts, cases_Bool, or_right, true≢false}
use Rattle.std.proofs.lemmas.List.{take_more}
use Rattle.std.proofs.lemmas.List.Folds.{list_any_at}
use Rattle.std.proofs.lemmas.List.Kept.{IsStrictlySortedBy-filter}
use Rattle.std.proofs.lemmas.Map.Views.{any-filter_same}
use Rattle.mapdb_lists.specs.declared.own_place.OwnPlace.{OwnPlace}
use Rattle.mapdb_lists.specs.OwnPlaces.{IsFirstPlaceWhere, IsLeastPlace, is_beyond, lesser_place, lesser_where, place_cmp, stands}
use Rattle.mapdb_lists.proofs.Lists.ListedOrder.{less_from}
use Rattle.mapdb_lists.proofs.PlaceLemmas.PlaceOrder.{at_back, exact_own, le_as, le_is, le_itself, le_on, lt_le, not_before, place_itself, place_total}

-- ---- a list with one place more

pub any_more : {X : Type 0} (t : X → Bool) (xs : List X) (x : X) → list_any t (xs ++ x ∷ []) ≡ (t x || list_any t xs)
any_more t [] x = refl
any_more t (y ∷ xs) x = ap (λ (b : Bool). t y || b) (any_more t xs x) ∙ turn (t y) (t x) (list_any t xs)
  where
    turn : (a b c : Bool) → (a || (b || c)) ≡ (b || (a || c))
    turn true true c = refl
    turn true false c = refl
    turn false b c = refl

-- what stands there is the new place or stood there before
pub stands_more : (places : List OwnPlace) (p k : OwnPlace) → stands (places ++ p ∷ []) k ≡ (is_at (place_cmp p) k || stands places k)
stands_more places p k = any_more (is_at (place_cmp k)) places p ∙ ap (λ (b : Bool). b || stands places k) (at_back k p)

pub many_step : (places : List OwnPlace) (i : ℕ) (d : OwnPlace) (old new : List OwnPlace) → i < length places
    → ((k : OwnPlace) → stands new k ≡ (is_at (place_cmp (get_or places i d)) k || stands old k))
    → ((k : OwnPlace) → stands old k ≡ stands (take i places) k) → (k : OwnPlace) → stands new k ≡ stands (take (i + 1) places) k
many_step places i d old new inside put before k =
    put k
    ∙ ap (λ (b : Bool). is_at (place_cmp (get_or places i d)) k || b) (before k)
    ∙ sym (stands_more (take i places) (get_or places i d) k)
    ∙ ap (λ (l : List OwnPlace). stands l k) (sym (take_more places i d inside))

-- each place of a list stands there
pub item_stands : (places : List OwnPlace) (i : ℕ) (d : OwnPlace) → i < length places → stands places (get_or places i d) ≡ true
item_stands places i d inside = list_any_at (is_at (place_cmp (get_or places i d))) places i d inside (place_itself (get_or places i d))

-- ---- found one by one

module _ (test : OwnPlace → Bool) (done : List OwnPlace) (p : OwnPlace) where
  either_stands : (k : OwnPlace) → stands (done ++ p ∷ []) k ≡ true → (p ≡ k) ⊎ (stands done k ≡ true)
  either_stands k has =
      elim (cases_Bool (is_at (place_cmp p) k)) [
        | inl here ↦ inl (exact_own p k here)
        | inr other ↦ inr (ap (λ (b : Bool). b || stands done k) (sym other) ∙ sym (stands_more done p k) ∙ has)
      ]

  still_stands : (k : OwnPlace) → stands done k ≡ true → stands (done ++ p ∷ []) k ≡ true
  still_stands k has = stands_more done p k ∙ or_right (is_at (place_cmp p) k) (stands done k) has

  new_stands : stands (done ++ p ∷ []) p ≡ true
  new_stands = stands_more done p p ∙ ap (λ (b : Bool). b || stands done p) (place_itself p)

  -- where the new place passes
  with_passing : (found : Option OwnPlace) → test p ≡ true → IsFirstPlaceWhere test done found → IsLeastPlace test (done ++ p ∷ []) (lesser_place found p)
  with_passing None pass h = record {
    held = new_stands;
    passing = pass;
    least = λ k has passes. elim (either_stands k has) [
      | inl same ↦ subst (λ (x : OwnPlace). is_gt (place_cmp p x) ≡ false) same (le_itself p)
      | inr before ↦ absurd (true≢false (sym passes ∙ h k before))
    ];
  }
  with_passing (Some q) pass h = by (is_lt (place_cmp q p)) refl
    where
      by : (b : Bool) → is_lt (place_cmp q p) ≡ b → IsLeastPlace test (done ++ p ∷ []) (if b then q else p)
      by true before = record {
        held = still_stands q h.held;
        passing = h.passing;
        least = λ k has passes. elim (either_stands k has) [
          | inl same ↦ subst (λ (x : OwnPlace). is_gt (place_cmp q x) ≡ false) same (lt_le q p before)
          | inr stood ↦ h.least k stood passes
        ];
      }
      by false behind = record {
        held = new_stands;
        passing = pass;
        least = λ k has passes. elim (either_stands k has) [
          | inl same ↦ subst (λ (x : OwnPlace). is_gt (place_cmp p x) ≡ false) same (le_itself p)
          | inr stood ↦ le_on p q k (not_before q p behind) (h.least k stood passes)
        ];
      }

  -- the least so far, and the least with one place more
  pub least_more : (found : Option OwnPlace) → IsFirstPlaceWhere test done found → IsFirstPlaceWhere test (done ++ p ∷ []) (lesser_where test found p)
  least_more found h = by (test p) refl found h
    where
      by : (b : Bool) → test p ≡ b → (found : Option OwnPlace) → IsFirstPlaceWhere test done found → IsFirstPlaceWhere test (done ++ p ∷ []) (if b then Some (lesser_place found p) else found)
      by true pass found h = with_passing found pass h
      by false fails None h = λ k has. elim (either_stands k has) [
        | inl same ↦ ap test (sym same) ∙ fails
        | inr stood ↦ h k stood
      ]
      by false fails (Some q) h = record {
        held = still_stands q h.held;
        passing = h.passing;
        least = λ k has passes. elim (either_stands k has) [
          | inl same ↦ absurd (true≢false (sym passes ∙ ap test (sym same) ∙ fails))
          | inr stood ↦ h.least k stood passes
        ];
      }

pub least_step : (test : OwnPlace → Bool) (places : List OwnPlace) (i : ℕ) (d : OwnPlace) (found : Option OwnPlace) → i < length places
    → IsFirstPlaceWhere test (take i places) found → IsFirstPlaceWhere test (take (i + 1) places) (lesser_where test found (get_or places i d))
least_step test places i d found inside h =
    subst (λ (done : List OwnPlace). IsFirstPlaceWhere test done (lesser_where test found (get_or places i d))) (sym (take_more places i d inside))
    (least_more test (take i places) (get_or places i d) found h)

-- ---- found in the order

inside_as : (start : Bound OwnPlace) (k : OwnPlace) → IsFromStart place_cmp start k → is_from_start place_cmp start k ≡ true
inside_as (Included a) k h = le_as (place_cmp a k) h
inside_as (Excluded a) k h = ap is_lt h
inside_as Unbounded k h = refl

as_inside : (start : Bound OwnPlace) (k : OwnPlace) → is_from_start place_cmp start k ≡ true → IsFromStart place_cmp start k
as_inside (Included a) k h = le_is (place_cmp a k) h
as_inside (Excluded a) k h = less_from (place_cmp a k) h
as_inside Unbounded k h = tt

pub first_shown : (set : BTreeSet OwnPlace) (start : Bound OwnPlace) (p : OwnPlace) (rest : List OwnPlace) → IsKeyRangeOf place_cmp start Unbounded set (p ∷ rest)
    → IsLeastPlace (is_from_start place_cmp start) set.keys p
first_shown set start p rest h = record {
  held = h.1.1;
  passing = inside_as start p h.1.0.0;
  least = λ k has passes. h.2 k (as_inside start k passes, tt) has;
}

-- ---- the first two, in their order

pub sorted_rest : (p : OwnPlace) (rest : List OwnPlace) → IsStrictlySortedBy place_cmp (p ∷ rest)
    → AllByRecursion (λ (y : OwnPlace). place_cmp p y ≡ Less) rest × IsStrictlySortedBy place_cmp rest
unfolding IsStrictlySortedBy
sorted_rest p rest h = h

pub any_below : (q k : OwnPlace) (xs : List OwnPlace) → AllByRecursion (λ (y : OwnPlace). place_cmp q y ≡ Less) xs → stands xs k ≡ true → place_cmp q k ≡ Less
any_below q k [] all has = absurd (true≢false (sym has))
any_below q k (x ∷ xs) all has = elim (cases_Bool (is_at (place_cmp k) x)) [
  | inl here ↦ subst (λ (y : OwnPlace). place_cmp q y ≡ Less) (sym (exact_own k x here)) all.0
  | inr other ↦ any_below q k xs all.1 (sym (ap (λ (b : Bool). b || stands xs k) other) ∙ has)
]

module _ (set : BTreeSet OwnPlace) (start : Bound OwnPlace) (p : OwnPlace) (rest : List OwnPlace)
    (is : p ∷ rest ≡ filter (range_contains place_cmp start Unbounded) set.keys) (ordered : IsStrictlySortedBy place_cmp set.keys)
    (inside : IsFromStart place_cmp start p) where
  rising : IsStrictlySortedBy place_cmp (p ∷ rest)
  rising = subst (λ (xs : List OwnPlace). IsStrictlySortedBy place_cmp xs) (sym is) (IsStrictlySortedBy-filter place_cmp (range_contains place_cmp start Unbounded) set.keys ordered)

  found_as : (k : OwnPlace) → stands (p ∷ rest) k ≡ (range_contains place_cmp start Unbounded k && stands set.keys k)
  found_as k =
      ap (λ (xs : List OwnPlace). stands xs k) is
      ∙ any-filter_same (is_at (place_cmp k)) (range_contains place_cmp start Unbounded) (range_contains place_cmp start Unbounded k)
      (λ x same. ap (range_contains place_cmp start Unbounded) (sym (exact_own k x same))) set.keys

  on_from : (start : Bound OwnPlace) (k : OwnPlace) → IsFromStart place_cmp start p → place_cmp p k ≡ Less → range_contains place_cmp start Unbounded k ≡ true
  on_from (Included a) k h less = ap (λ (b : Bool). b && true) (le_as (place_cmp a k) (le_on a p k h (ap is_gt less)))
  on_from (Excluded a) k h less = ap (λ (b : Bool). b && true) (ap is_lt (place_total.trans a p k h less))
  on_from Unbounded k h less = refl

  in_rest : (k : OwnPlace) → stands set.keys k ≡ true → is_lt (place_cmp p k) ≡ true → stands rest k ≡ true
  in_rest k has above =
      sym (ap (λ (b : Bool). b || stands rest k) (at_back k p ∙ apart (place_cmp p k) above))
      ∙ found_as k ∙ (λ i. on_from start k inside (less_from (place_cmp p k) above) i && has i)
    where
      apart : (o : Ordering) → is_lt o ≡ true → is_eq o ≡ false
      apart Less h = refl
      apart Equal h = absurd (true≢false (sym h))
      apart Greater h = absurd (true≢false (sym h))

  pub second_none : rest ≡ [] → (k : OwnPlace) → stands set.keys k ≡ true → is_lt (place_cmp p k) ≡ false
  second_none none k has = elim (cases_Bool (is_lt (place_cmp p k))) [
    | inl above ↦ absurd (true≢false (sym (in_rest k has above) ∙ ap (λ (xs : List OwnPlace). stands xs k) none))
    | inr not_above ↦ not_above
  ]

  pub second_shown : (q : OwnPlace) (more : List OwnPlace) → rest ≡ q ∷ more → IsLeastPlace (is_beyond (Some p)) set.keys q
  second_shown q more next =
      let up = sorted_rest p (q ∷ more) (subst (λ (xs : List OwnPlace). IsStrictlySortedBy place_cmp (p ∷ xs)) next rising) in
      let here : stands rest q ≡ true = ap (λ (xs : List OwnPlace). stands xs q) next ∙ ap (λ (b : Bool). b || stands more q) (place_itself q) in
      record {
        held = (and_parts (range_contains place_cmp start Unbounded q) (stands set.keys q) (sym (found_as q) ∙ or_right (is_at (place_cmp q) p) (stands rest q) here)).1;
        passing = ap is_lt up.0.0;
        least = λ k has above. by k (sym (ap (λ (xs : List OwnPlace). stands xs k) next) ∙ in_rest k has above) (sorted_rest q more up.1).0;
      }
    where
      by : (k : OwnPlace) → stands (q ∷ more) k ≡ true → AllByRecursion (λ (y : OwnPlace). place_cmp q y ≡ Less) more → is_gt (place_cmp q k) ≡ false
      by k has all = elim (cases_Bool (is_at (place_cmp k) q)) [
        | inl same ↦ subst (λ (x : OwnPlace). is_gt (place_cmp q x) ≡ false) (sym (exact_own k q same)) (le_itself q)
        | inr other ↦ ap is_gt (any_below q k more all (sym (ap (λ (b : Bool). b || stands more k) other) ∙ has))
      ]
