-- Which places of an owner meet pages, and which come next of those that may.
use Rattle.std.proofs.Common.{◌≡◌, ℕ, ◌+◌, ◌-◌, ◌*◌, ◌/◌, ◌%◌, ◌^◌, ◌<◌, ◌≤◌, true, false, refl, sym, ap, subst, List, ◌∙◌, arith, inl, inr, mul-le-mul_right}
use Rattle.std.specs.Prelude.{◌⊎◌, min, max, Option, None, Some, is_some}
use Rattle.std.specs.BTreeMap.Range.{is_from_start}
use Rattle.std.specs.Ordering.{is_gt, is_lt}
use Rattle.std.specs.declared.ops.Bound.TheVariants.{Included}
use Rattle.std.proofs.lemmas.Bool.{cases_Bool, false_from_ne_true, ltb-true, ltb-false, true≢false}
use Rattle.std.proofs.lemmas.Nat.{pow_pos}
use Rattle.std.proofs.Math.Pow.{pow_mono}
use Rattle.mapdb_lists.specs.declared.own_place.OwnPlace.{OwnPlace}
use Rattle.mapdb_lists.specs.OwnPlaces.{AreAligned, HasReached, HasReachedFrom, IsAlignedPlace, IsFirstPlaceWhere, IsNextPlace, IsReachedAbove, is_beyond, orders_ahead, own_meets, own_pages, place_cmp, stands, start}
use Rattle.mapdb_lists.specs.PlaceKeys.{first_limit}
use Rattle.mapdb_lists.specs.Standing.{HaveOrders, IsLeastOrder, IsNextOrder, has_order}
use Rattle.mapdb_lists.specs.declared.orders.Orders.{Orders}
use Rattle.mapdb_lists.proofs.Lists.ListedOrder.{less_from}
use Rattle.mapdb_lists.proofs.PlaceLemmas.PlaceOrder.{le_as, le_is, le_parts, lt_parts, place_total, same_or_above, start_le}

-- ---- pages

pub either_way : (a b : ℕ) → (a ≤ b) ⊎ (b + 1 ≤ a)
either_way a b = grind arith

-- aligned pages that end behind a page begin no earlier than those of their size that hold it
pub aligned_start : (n s f : ℕ) → 0 < n → s % n ≡ 0 → f < s + n → f - f % n ≤ s
aligned_start n s f some aligned before =
    elim (either_way (f / n) (s / n)) [
      | inl below ↦ let m = mul-le-mul_right {m = f / n} {n = s / n} n below in omega arith
      | inr above ↦ let m = mul-le-mul_right {m = s / n + 1} {n = f / n} n above in absurd (omega arith)
    ]

pub some_pages : (p : OwnPlace) → 0 < own_pages p
some_pages p = pow_pos (p.order - 12)

-- places of one order have the same pages
pub same_pages : (a b : OwnPlace) → a.order ≡ b.order → own_pages a ≡ own_pages b
same_pages a b e = ap (λ n. 2 ^ (n - 12)) e

pub meets_below : (p : OwnPlace) (first end : ℕ) → own_meets p first end ≡ true → (p.first < end) × (first < p.first + own_pages p)
meets_below p first end h =
    let less : max p.first first < min (p.first + own_pages p) end = ltb-true (max p.first first) (min (p.first + own_pages p) end) h in
    (omega arith, omega arith)

-- no place meets pages from this limit on, or pages that end before they begin
pub none_met : (p : OwnPlace) (first end : ℕ) → IsAlignedPlace p → min end first_limit ≤ first → own_meets p first end ≡ false
none_met p first end aligned pages = false_from_ne_true (own_meets p first end) (λ met.
    let less : max p.first first < min (p.first + own_pages p) end = ltb-true (max p.first first) (min (p.first + own_pages p) end) met in
    let most = aligned.at_most_all in
    let inside = aligned.in_space in
    let small : p.order - 12 ≤ 36 = omega (arith, most) in
    let few : own_pages p ≤ 2 ^ 36 = pow_mono small in
    let no : ⊥ = omega (arith, less, few, inside, pages) in
    no)

-- what does not meet the pages and begins before their end ends before they begin
pub ends_before : (p : OwnPlace) (first end : ℕ) → first < end → p.first < end → own_meets p first end ≡ false → p.first + own_pages p ≤ first
ends_before p first end pages begins h =
    let more : min (p.first + own_pages p) end ≤ max p.first first = ltb-false (max p.first first) (min (p.first + own_pages p) end) h in
    let some = some_pages p in
    omega arith

-- ---- what is passed

from_above : (c k : OwnPlace) → is_beyond (Some c) k ≡ true → (c.order < k.order) ⊎ ((c.order ≡ k.order) × (c.first ≤ k.first))
from_above c k above = le_parts c k (ap is_gt (less_from (place_cmp c k) above))

-- of a place's order what meets the pages begins no earlier than the place of that order that holds the first of them
from_low : (first end : ℕ) (c k : OwnPlace) → IsAlignedPlace k → is_beyond (Some c) k ≡ true → own_meets k first end ≡ true
    → is_gt (place_cmp (start c.order (first - first % own_pages c)) k) ≡ false
from_low first end c k place above meeting =
    elim (from_above c k above) [
      | inl less ↦ start_le c.order (first - first % own_pages c) k (inl less)
      | inr both ↦
          let below = meets_below k first end meeting in
          let low : first - first % own_pages k ≤ k.first = aligned_start (own_pages k) k.first first (some_pages k) place.aligned below.1 in
          let as_c : first - first % own_pages c ≤ k.first = subst (λ n. first - first % n ≤ k.first) (sym (same_pages c k both.0)) low in
          start_le c.order (first - first % own_pages c) k (inr (both.0, as_c))
    ]

before_low : (n first s : ℕ) → 0 < n → s + n ≤ first → s < first - first % n
before_low n first s some before = omega arith

pub over_low : (n first s : ℕ) → 0 < n → first - first % n ≤ s → first < s + n
over_low n first s some above = omega arith

fewer_orders : (a b x y : ℕ) → a < b → b ≤ 48 → 1 + 2 * (49 - b) + (1 - x) < 1 + 2 * (49 - a) + (1 - y)
fewer_orders a b x y less most = omega arith

same_orders : (a b x y : ℕ) → a ≡ b → 0 < x → y ≡ 0 → 1 + 2 * (49 - b) + (1 - x) < 1 + 2 * (49 - a) + (1 - y)
same_orders a b x y same some none = omega arith

-- ---- the least from a place on, or above one

module _ (places : List OwnPlace) (low : OwnPlace) where
  -- what comes no earlier than the bound and stands among the places
  pub not_from : (k : OwnPlace) → IsFirstPlaceWhere (is_from_start place_cmp (Included low)) places None → stands places k ≡ true → ¬ (is_gt (place_cmp low k) ≡ false)
  not_from k h has up = true≢false (sym (le_as (place_cmp low k) up) ∙ h k has)

-- ---- the first of an order on

either_up : (a b : ℕ) → a ≤ b → (a < b) ⊎ (a ≡ b)
either_up a b h = grind arith

module _ (places : List OwnPlace) (orders : Orders) (aligned : AreAligned places) (have : HaveOrders places orders) (order least first end : ℕ)
    (up_to : order ≤ least) (no_more : (m : ℕ) → order ≤ m → 12 ≤ m → least ≤ m) where
  known_order : (k : OwnPlace) → stands places k ≡ true → has_order orders k.order ≡ true
  known_order k has = let most = (aligned k has).at_most_all in have k has (omega arith)

  module _ (next : ℕ) (is : IsLeastOrder orders least next) where
    next_up : (k : OwnPlace) → stands places k ≡ true → order ≤ k.order → next ≤ k.order
    next_up k has up = is.least k.order (known_order k has) (no_more k.order up (aligned k has).at_least_a_page)

    abbrev begins : OwnPlace
    begins = start next (first - first % 2 ^ (next - 12))

    from_start : (k : OwnPlace) → stands places k ≡ true → order ≤ k.order → own_meets k first end ≡ true → is_gt (place_cmp begins k) ≡ false
    from_start k has up meeting =
        elim (either_up next k.order (next_up k has up)) [
          | inl less ↦ start_le next (first - first % 2 ^ (next - 12)) k (inl less)
          | inr same ↦
              let below = meets_below k first end meeting in
              let low : first - first % own_pages k ≤ k.first = aligned_start (own_pages k) k.first first (some_pages k) (aligned k has).aligned below.1 in
              let at_next : first - first % 2 ^ (next - 12) ≤ k.first = subst (λ n. first - first % 2 ^ (n - 12) ≤ k.first) (sym same) low in
              start_le next (first - first % 2 ^ (next - 12)) k (inr (same, at_next))
        ]

    order_up : (p : OwnPlace) → is_gt (place_cmp begins p) ≡ false → order ≤ p.order
    order_up p inside =
        let up = is.behind in
        elim (le_parts begins p inside) [
          | inl less ↦ omega arith
          | inr both ↦ let same = both.0 in omega arith
        ]

    pub first_reached : (r : Option OwnPlace) → IsFirstPlaceWhere (is_from_start place_cmp (Included begins)) places r → HasReachedFrom places order first end r
    first_reached None h = λ k has up.
        elim (cases_Bool (own_meets k first end)) [
          | inl so ↦ absurd (not_from places begins k h has (from_start k has up so))
          | inr not_so ↦ not_so
        ]
    first_reached (Some p) h = record {
      held = h.held;
      behind = order_up p (le_is (place_cmp begins p) h.passing);
      least = λ k has up meeting. h.least k has (le_as (place_cmp begins k) (from_start k has up meeting));
    }

  -- where no order is left, none is reached
  pub none_left : IsNextOrder orders least None → HasReachedFrom places order first end None
  none_left none k has up =
      let less = none k.order (known_order k has) in
      let more = no_more k.order up (aligned k has).at_least_a_page in
      absurd (omega arith)

  -- nor where the next is above all
  pub none_so_high : (next : ℕ) → IsLeastOrder orders least next → 48 < next → HasReachedFrom places order first end None
  none_so_high next is high k has up =
      let least_up = next_up next is k has up in
      let most = (aligned k has).at_most_all in
      absurd (omega arith)

-- ---- what comes next

module _ (places : List OwnPlace) (first end : ℕ) (c : OwnPlace) where
  -- of a place's order none above it meets pages that end before it
  over_order : (k : OwnPlace) → end ≤ c.first → is_beyond (Some c) k ≡ true → own_meets k first end ≡ true → c.order < k.order
  over_order k beyond above meeting =
      elim (from_above c k above) [
        | inl less ↦ less
        | inr both ↦ let below = meets_below k first end meeting in let later_first = both.1 in absurd (omega arith)
      ]

  pub pass_end : (r : Option OwnPlace) (order : ℕ) → end ≤ c.first → order ≤ c.order + 1 → ((k : OwnPlace) → stands places k ≡ true → order ≤ k.order → c.order < k.order)
      → HasReachedFrom places order first end r → HasReached places first end (Some c) r
  pass_end None order beyond up over h = λ k has above.
      elim (cases_Bool (own_meets k first end)) [
        | inl so ↦ let higher = over_order k beyond above so in absurd (true≢false (sym so ∙ h k has (omega arith)))
        | inr not_so ↦ not_so
      ]
  pass_end (Some p) order beyond up over h = record {
    held = h.held;
    above = ap is_lt (lt_parts c p (inl (over p h.held h.behind)));
    least = λ k has above meeting. let higher = over_order k beyond above meeting in h.least k has (omega arith) meeting;
  }

  pub fewer_end : (r : Option OwnPlace) → AreAligned places → HasReachedFrom places (c.order + 1) first end r → orders_ahead first r < orders_ahead first (Some c)
  fewer_end None all h = omega arith
  fewer_end (Some p) all h =
      let up = h.behind in
      fewer_orders c.order p.order (p.first + own_pages p - first) (c.first + own_pages c - first) (omega arith) (all p h.held).at_most_all

  -- ---- where it ends before the pages

  abbrev low : OwnPlace
  low = start c.order (first - first % own_pages c)

  place_above : (p : OwnPlace) → c.first + own_pages c ≤ first → is_gt (place_cmp low p) ≡ false → (c.order < p.order) ⊎ ((c.order ≡ p.order) × (c.first < p.first))
  place_above p before inside =
      elim (le_parts low p inside) [
        | inl less ↦ inl less
        | inr both ↦ let lower = before_low (own_pages c) first c.first (some_pages c) before in let upper = both.1 in inr (both.0, omega arith)
      ]

  pub pass_low : (r : Option OwnPlace) → AreAligned places → c.first + own_pages c ≤ first → IsFirstPlaceWhere (is_from_start place_cmp (Included low)) places r
      → HasReached places first end (Some c) r
  pass_low None all before h = λ k has above.
      elim (cases_Bool (own_meets k first end)) [
        | inl so ↦ absurd (not_from places low k h has (from_low first end c k (all k has) above so))
        | inr not_so ↦ not_so
      ]
  pass_low (Some p) all before h = record {
    held = h.held;
    above = ap is_lt (lt_parts c p (place_above p before (le_is (place_cmp low p) h.passing)));
    least = λ k has above meeting. h.least k has (le_as (place_cmp low k) (from_low first end c k (all k has) above meeting));
  }

  pub fewer_low : (r : Option OwnPlace) → AreAligned places → c.first + own_pages c ≤ first → IsFirstPlaceWhere (is_from_start place_cmp (Included low)) places r
      → orders_ahead first r < orders_ahead first (Some c)
  fewer_low None all before h = omega arith
  fewer_low (Some p) all before h =
      elim (le_parts low p (le_is (place_cmp low p) h.passing)) [
        | inl less ↦ fewer_orders c.order p.order (p.first + own_pages p - first) (c.first + own_pages c - first) less (all p h.held).at_most_all
        | inr both ↦
            let over : first < p.first + own_pages c = over_low (own_pages c) first p.first (some_pages c) both.1 in
            let pages : own_pages c ≡ own_pages p = same_pages c p both.0 in
            same_orders c.order p.order (p.first + own_pages p - first) (c.first + own_pages c - first) both.0 (omega arith) (omega arith)
      ]

-- ---- where the search begins

module _ (places : List OwnPlace) (first end : ℕ) where
  pub begin_least : (r : Option OwnPlace) → HasReachedFrom places 0 first end r → HasReached places first end None r
  begin_least None h = λ k has above. h k has (omega arith)
  begin_least (Some p) h = record {
    held = h.held;
    above = refl;
    least = λ k has above meeting. h.least k has (omega arith) meeting;
  }

  -- ---- and goes on

  pub above_on : (after : Option OwnPlace) (c p : OwnPlace) → is_beyond after c ≡ true → is_beyond (Some c) p ≡ true → is_beyond after p ≡ true
  above_on None c p h k = refl
  above_on (Some a) c p h k = ap is_lt (place_total.trans a c p (less_from (place_cmp a c) h) (less_from (place_cmp c p) k))

  -- what meets the pages stands above a place that does not
  beyond : (after : Option OwnPlace) (c k : OwnPlace) → IsReachedAbove places first end after c → own_meets c first end ≡ false → stands places k ≡ true
      → is_beyond after k ≡ true → own_meets k first end ≡ true → is_beyond (Some c) k ≡ true
  beyond after c k reached apart has above meeting =
      elim (same_or_above c k (reached.least k has above meeting)) [
        | inl same ↦ absurd (true≢false (sym meeting ∙ ap (λ (p : OwnPlace). own_meets p first end) (sym same) ∙ apart))
        | inr less ↦ ap is_lt less
      ]

  pub reached_on : (after : Option OwnPlace) (c : OwnPlace) (r : Option OwnPlace) → IsReachedAbove places first end after c → own_meets c first end ≡ false
      → HasReached places first end (Some c) r → HasReached places first end after r
  reached_on after c None reached apart h = λ k has above.
      elim (cases_Bool (own_meets k first end)) [
        | inl so ↦ absurd (true≢false (sym so ∙ h k has (beyond after c k reached apart has above so)))
        | inr not_so ↦ not_so
      ]
  reached_on after c (Some p) reached apart h = record {
    held = h.held;
    above = above_on after c p reached.above h.above;
    least = λ k has above meeting. h.least k has (beyond after c k reached apart has above meeting) meeting;
  }

-- ---- the last that meets the pages

-- where no order is found, all lie below
pub no_order : (orders : Orders) (bound : ℕ) (found : Option ℕ) → IsNextOrder orders bound found → is_some found ≡ false → (k : ℕ) → has_order orders k ≡ true → k < bound
no_order orders bound None h none k has = h k has
no_order orders bound (Some order) h none k has = absurd (true≢false none)

module _ (places : List OwnPlace) (orders : Orders) (aligned : AreAligned places) (have : HaveOrders places orders) (first end : ℕ) (p : OwnPlace) where
  -- no order stands above its own, and of its own all begin behind the pages
  pub last_of_order : (next : OwnPlace) (bound : ℕ) → bound ≤ p.order + 1 → ((next.order ≡ p.order) → end ≤ next.first)
      → ((k : OwnPlace) → stands places k ≡ true → is_beyond (Some p) k ≡ true → is_gt (place_cmp next k) ≡ false) → is_beyond (Some p) next ≡ true
      → ((k : ℕ) → has_order orders k ≡ true → k < bound) → IsNextPlace places first end (Some p) None
  last_of_order next bound up no_lower least above none k has behind =
      let most = (aligned k has).at_most_all in
      let known = none k.order (have k has (omega arith)) in
      elim (cases_Bool (own_meets k first end)) [
        | inr not_so ↦ not_so
        | inl so ↦
            let below = (meets_below k first end so).0 in
            elim (le_parts next k (least k has behind)) [
              | inl less ↦ elim (from_above p next above) [
                | inl higher ↦ absurd (omega arith)
                | inr both ↦ let same = both.0 in absurd (omega arith)
              ]
              | inr alike ↦
                  let same_order = alike.0 in
                  let later_first = alike.1 in
                  elim (from_above p next above) [
                    | inl higher ↦ absurd (omega arith)
                    | inr both ↦ let from_end = no_lower (sym both.0) in absurd (omega arith)
                  ]
            ]
      ]
