-- The names of places that are gathered in their order.
use Rattle.std.proofs.Common.{◌≡◌, ℕ, suc, add-one, ◌<◌, ◌≤◌, ◌+◌, ◌-◌, ◌%◌, ◌^◌, Bool, true, false, refl, sym, ap, subst, List, [], ◌∷◌, ◌++◌, drop, length, get_or, ◌∙◌, arith, inl, inr}
use Rattle.std.specs.Prelude.{◌⊎◌, ◌&&◌, ◌||◌, Option, None, Some, filter, max, min, nat_eq, nat_lt, not}
use Rattle.std.specs.BTreeMap.{is_at}
use Rattle.std.specs.List.Sorted.{IsPartitionPoint, IsStrictlySortedBy}
use Rattle.std.specs.BTreeMap.Range.{range_contains}
use Rattle.std.specs.Ordering.{is_gt, is_le, is_lt}
use Rattle.std.specs.declared.ops.Bound.TheVariants.{Included, Unbounded}
use Rattle.std.proofs.lemmas.List.Kept.{IsStrictlySortedBy-filter}
use Rattle.std.proofs.lemmas.Map.Views.{any-filter_same}
use Rattle.std.proofs.lemmas.Bool.{and_parts, cases_Bool, false≢true, lt-ltb, or_right, true≢false}
use Rattle.std.proofs.Math.Seq.{drop-cons}
use Rattle.std.proofs.lemmas.Bool.Decides.{nat_tests}
use Rattle.mapdb_facts.specs.Kept.{id_cmp}
use Rattle.mapdb_facts.specs.Names.{same_id}
use Rattle.mapdb_facts.specs.declared.names.RecordId.{RecordId}
use Rattle.mapdb_facts.proofs.Lists.Comparing.{exact_ids, id_at}
use Rattle.mapdb_facts.proofs.Lists.SameNames.{same_id_itself}
use Rattle.mapdb_lists.specs.declared.own_place.OwnPlace.{OwnPlace}
use Rattle.mapdb_fpage.specs.Bounds.{top_order}
use Rattle.mapdb_lists.specs.Ascending.{Ascend, IsAtIndex}
use Rattle.mapdb_lists.specs.OwnPlaces.{AreAligned, IsAlignedPlace, own_meets, own_pages, place_cmp, stands, start}
use Rattle.mapdb_lists.specs.Standing.{HaveOrders, IsNextOrder, has_order, is_named}
use Rattle.mapdb_lists.specs.declared.orders.Orders.{Orders}
use Rattle.mapdb_lists.proofs.PlaceLemmas.Meetings.{aligned_start, meets_below, over_low, some_pages}
use Rattle.mapdb_lists.proofs.PlaceLemmas.LeastPlaces.{any_below, any_more, sorted_rest}
use Rattle.mapdb_lists.proofs.PlaceLemmas.PlaceOrder.{exact_own, le_as, le_is, le_itself, le_parts, not_before, start_le}
use Rattle.mapdb_lists.proofs.PlaceLemmas.PlaceLists.{at_index, no_later, not_from}

-- what is named among some is named among more
pub named_front : (id : RecordId) (names more : List RecordId) → is_named names id ≡ true → is_named (names ++ more) id ≡ true
named_front id [] more h = absurd (false≢true h)
named_front id (other ∷ names) more h = or_both (is_at (id_cmp id) other) (is_named names id) (is_named (names ++ more) id) (named_front id names more) h
  where
    or_both : (a b c : Bool) → (b ≡ true → c ≡ true) → (a || b) ≡ true → (a || c) ≡ true
    or_both true b c f h = refl
    or_both false b c f h = f h

pub named_last : (id : RecordId) (names : List RecordId) (last : RecordId) → last ≡ id → is_named (names ++ last ∷ []) id ≡ true
named_last id [] last e = ap (λ (b : Bool). b || false) (id_at id last ∙ ap (same_id id) e ∙ same_id_itself id)
named_last id (other ∷ names) last e = or_right (is_at (id_cmp id) other) (is_named (names ++ last ∷ []) id) (named_last id names last e)

-- of what comes the first is gathered, or it comes later
pub or_later : (p place : OwnPlace) (rest : List OwnPlace) → stands (place ∷ rest) p ≡ true → (stands rest p ≡ true) ⊎ (p ≡ place)
or_later p place rest has = elim (cases_Bool (is_at (place_cmp p) place)) [
  | inl here ↦ inr (exact_own p place here)
  | inr other ↦ inl (sym (ap (λ (b : Bool). b || stands rest p) other) ∙ has)
]

-- of the places that come one stands first, or comes later
pub next_stands : (places : List OwnPlace) (i : ℕ) (d p : OwnPlace) → i < length places → stands (drop i places) p ≡ true
    → (stands (drop (i + 1) places) p ≡ true) ⊎ (get_or places i d ≡ p)
next_stands places i d p inside ahead =
    elim (or_later p (get_or places i d) (drop (suc i) places) (ap (λ (xs : List OwnPlace). stands xs p) (sym (drop-cons places i d inside)) ∙ ahead)) [
      | inl later ↦ inl ((λ j. stands (drop (add-one i j) places) p) ∙ later)
      | inr here ↦ inr (sym here)
    ]

-- what is named with one more is that one, or was named before
pub named_before : (id : RecordId) (names : List RecordId) (last : RecordId) → is_named (names ++ last ∷ []) id ≡ true → (is_named names id ≡ true) ⊎ (last ≡ id)
named_before id names last h = elim (cases_Bool (is_at (id_cmp id) last)) [
  | inl here ↦ inr (sym (exact_ids id last here))
  | inr other ↦ inl (ap (λ (b : Bool). b || is_named names id) (sym other) ∙ sym (any_more (is_at (id_cmp id)) names last) ∙ h)
]

-- behind a place from one on that is of another order, or begins behind an end, no place of that one's order begins before the end
pub passed : (from place p : OwnPlace) (end : ℕ) → is_gt (place_cmp from place) ≡ false → is_gt (place_cmp place p) ≡ false
    → (nat_eq place.order from.order && nat_lt place.first end) ≡ false → p.order ≡ from.order → p.first < end → ⊥
passed from place p end from_up up over same begins =
    by (le_parts from place from_up) (le_parts place p up)
  where
    by : (from.order < place.order) ⊎ ((from.order ≡ place.order) × (from.first ≤ place.first)) → (place.order < p.order) ⊎ ((place.order ≡ p.order) × (place.first ≤ p.first)) → ⊥
    by (inl less) (inl more) = omega (arith, less, more, same)
    by (inl less) (inr both) = let alike = both.0 in omega (arith, less, alike, same)
    by (inr both) (inl more) = let alike = both.0 in omega (arith, more, alike, same)
    by (inr first) (inr second) =
        let alike = first.0 in
        let low = second.1 in
        let inside : (nat_eq place.order from.order && nat_lt place.first end) ≡ true = grind (arith, nat_tests) in
        false≢true (sym over ∙ inside)

-- of places in their order the first comes no later than any
pub first_up : (p k : OwnPlace) (rest : List OwnPlace) → IsStrictlySortedBy place_cmp (p ∷ rest) → stands (p ∷ rest) k ≡ true → is_gt (place_cmp p k) ≡ false
first_up p k rest sorted has = elim (cases_Bool (is_at (place_cmp k) p)) [
  | inl same ↦ subst (λ (x : OwnPlace). is_gt (place_cmp p x) ≡ false) (sym (exact_own k p same)) (le_itself p)
  | inr other ↦ ap is_gt (any_below p k rest (sorted_rest p rest sorted).0 (sym (ap (λ (b : Bool). b || stands rest k) other) ∙ has))
]

-- ---- in a tree

module _ (keys items : List OwnPlace) (from : OwnPlace) (is : items ≡ filter (range_contains place_cmp (Included from) Unbounded) keys) where
  found_as : (k : OwnPlace) → stands items k ≡ ((is_le (place_cmp from k) && true) && stands keys k)
  found_as k =
      ap (λ (xs : List OwnPlace). stands xs k) is
      ∙ any-filter_same (is_at (place_cmp k)) (range_contains place_cmp (Included from) Unbounded) (range_contains place_cmp (Included from) Unbounded k)
      (λ x same. ap (range_contains place_cmp (Included from) Unbounded) (sym (exact_own k x same))) keys

  pub sorted_from : IsStrictlySortedBy place_cmp keys → IsStrictlySortedBy place_cmp items
  sorted_from ordered =
      subst (λ (xs : List OwnPlace). IsStrictlySortedBy place_cmp xs) (sym is) (IsStrictlySortedBy-filter place_cmp (range_contains place_cmp (Included from) Unbounded) keys ordered)

  pub up_from : (k : OwnPlace) → stands items k ≡ true → is_gt (place_cmp from k) ≡ false
  up_from k has =
      le_is (place_cmp from k) (and_parts (is_le (place_cmp from k)) true (and_parts (is_le (place_cmp from k) && true) (stands keys k) (sym (found_as k) ∙ has)).0).0

  pub stands_from : (k : OwnPlace) → stands keys k ≡ true → is_gt (place_cmp from k) ≡ false → stands items k ≡ true
  stands_from k has up = found_as k ∙ (λ i. (le_as (place_cmp from k) up i && true) && has i)

  pub held_from : (k : OwnPlace) → stands items k ≡ true → stands keys k ≡ true
  held_from k has = (and_parts (is_le (place_cmp from k) && true) (stands keys k) (sym (found_as k) ∙ has)).1

-- ---- in a list

module _ (list : List OwnPlace) (ascend : Ascend list) (from : OwnPlace) where
  -- what stands in front of where the first belongs comes before it
  pub is_from : (index j : ℕ) (p : OwnPlace) → IsPartitionPoint (λ y. is_lt (place_cmp y from) ≡ true) (λ y. is_lt (place_cmp y from) ≡ false) list index
      → IsAtIndex list j p → is_gt (place_cmp from p) ≡ false → index ≤ j
  is_from index j p parted at up = elim (either index j) [
    | inl later ↦ later
    | inr before ↦
        absurd (true≢false (sym (ap (λ (x : OwnPlace). is_lt (place_cmp x from)) (sym (at.1 p)) ∙ parted.0 j p (omega arith) before) ∙ not_from from p ∙ ap not (le_as (place_cmp from p) up)))
  ]
    where
      either : (index j : ℕ) → (index ≤ j) ⊎ (j < index)
      either index j = grind arith

  pub all_from : (index j : ℕ) (d : OwnPlace) → IsPartitionPoint (λ y. is_lt (place_cmp y from) ≡ true) (λ y. is_lt (place_cmp y from) ≡ false) list index
      → index ≤ j → j < length list → is_gt (place_cmp from (get_or list j d)) ≡ false
  all_from index j d parted later inside = not_before (get_or list j d) from (parted.1 j d later inside)

  -- behind a place of another order, or one behind the end, none is gathered
  pub none_behind : (at j : ℕ) (d p : OwnPlace) (end : ℕ) → at < length list → is_gt (place_cmp from (get_or list at d)) ≡ false
      → (nat_eq (get_or list at d).order from.order && nat_lt (get_or list at d).first end) ≡ false
      → IsAtIndex list j p → p.order ≡ from.order → p.first < end → at ≤ j → ⊥
  none_behind at j d p end inside up over here same begins later =
      passed from (get_or list at d) p end up (no_later list ascend at j (get_or list at d) p later (at_index list at d inside) here) over same begins

-- what is gathered comes later, or it is the next one
pub or_next : (list : List OwnPlace) (at j : ℕ) (d p : OwnPlace) → IsAtIndex list j p → at ≤ j → (at + 1 ≤ j) ⊎ (get_or list at d ≡ p)
or_next list at j d p here later = elim (either at j later) [
  | inl more ↦ inl more
  | inr same ↦ inr (ap (λ k. get_or list k d) same ∙ here.1 d)
]
  where
    either : (at j : ℕ) → at ≤ j → (at + 1 ≤ j) ⊎ (at ≡ j)
    either at j later = grind arith

-- ---- order by order

-- the order is the one that was reached, or one above it
abbrev pub IsAhead : Option ℕ → ℕ → Type 0
IsAhead None k = ⊥
IsAhead (Some order) k = order ≤ k

-- how many orders are ahead at most
abbrev pub orders_to_go : Option ℕ → ℕ
orders_to_go None = 0
orders_to_go (Some order) = top_order + 2 - order

module _ (places : List OwnPlace) (orders : Orders) (aligned : AreAligned places) (have : HaveOrders places orders) (from : ℕ) where
  -- the orders of places that are not below one are from the next one of the set on
  pub ahead_on : (reached : Option ℕ) → IsNextOrder orders from reached → (p : OwnPlace) → stands places p ≡ true → from ≤ p.order → IsAhead reached p.order
  ahead_on reached is p has up = by reached is
    where
      known : has_order orders p.order ≡ true
      known = let most = (aligned p has).at_most_all in have p has (omega arith)

      by : (reached : Option ℕ) → IsNextOrder orders from reached → IsAhead reached p.order
      by None none = let below = none p.order known in omega (arith, below, up)
      by (Some order) least = least.least p.order known up

-- an order is the one that was reached, or one above it
pub or_above : (order k : ℕ) → order ≤ k → (k ≡ order) ⊎ (order + 1 ≤ k)
or_above order k ahead = grind arith

-- a place of an order from the one on that holds the first page meets the pages, where it begins before their end
pub meets_from : (order first end : ℕ) (p : OwnPlace) → first < end → is_gt (place_cmp (start order (first - first % 2 ^ (order - 12))) p) ≡ false → p.order ≡ order → p.first < end
    → own_meets p first end ≡ true
meets_from order first end p some up same begins =
    lt-ltb (max p.first first) (min (p.first + own_pages p) end) (by (le_parts (start order (first - first % 2 ^ (order - 12))) p up))
  where
    by : (order < p.order) ⊎ ((order ≡ p.order) × (first - first % 2 ^ (order - 12) ≤ p.first)) → max p.first first < min (p.first + own_pages p) end
    by (inl less) = absurd (omega (arith, less, same))
    by (inr both) =
        let low : first - first % own_pages p ≤ p.first = subst (λ n. first - first % 2 ^ (n - 12) ≤ p.first) (sym same) both.1 in
        let over = over_low (own_pages p) first p.first (some_pages p) low in
        omega (arith, over, some, begins, some_pages p)

-- a place of an order that meets pages comes no earlier than the place of that order that holds the first of them
pub from_start_of : (order first end : ℕ) (p : OwnPlace) → IsAlignedPlace p → order ≡ p.order → own_meets p first end ≡ true
    → (is_gt (place_cmp (start order (first - first % 2 ^ (order - 12))) p) ≡ false) × (p.first < end)
from_start_of order first end p place same meeting =
    let below = meets_below p first end meeting in
    let low : first - first % own_pages p ≤ p.first = aligned_start (own_pages p) p.first first (some_pages p) place.aligned below.1 in
    let as_order : first - first % 2 ^ (order - 12) ≤ p.first = subst (λ n. first - first % 2 ^ (n - 12) ≤ p.first) (sym same) low in
    (start_le order (first - first % 2 ^ (order - 12)) p (inr (same, as_order)), below.0)
