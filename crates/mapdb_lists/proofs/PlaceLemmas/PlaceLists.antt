-- Places in ascending order in a list: what stands at an index is the least of all from there on.
use Rattle.std.proofs.Common.{◌≡◌, ℕ, ◌+◌, ◌<◌, ◌≤◌, Bool, true, false, refl, sym, ap, subst, List, ◌∷◌, get_or, length, ◌∙◌, inl, inr, arith}
use Rattle.std.specs.Prelude.{◌⊎◌, ◌||◌, ◌-◌, not, Option, None, Some, slice_get}
use Rattle.std.specs.BTreeMap.{is_at}
use Rattle.std.specs.List.{insert}
use Rattle.std.specs.List.Sorted.{IsPartitionPoint, IsPartitionedBy}
use Rattle.std.specs.Ordering.{is_gt, is_le, is_lt, ordering_reverse}
use Rattle.std.specs.declared.cmp.Ordering.{Ordering}
use Rattle.std.specs.declared.cmp.Ordering.TheVariants.{Equal, Greater, Less}
use Rattle.std.proofs.lemmas.Bool.{cases_Bool, true≢false}
use Rattle.std.proofs.lemmas.List.{get_or_default}
use Rattle.std.proofs.lemmas.List.Edits.{get_or-insert_above, get_or-insert_at, get_or-insert_below, length-insert}
use Rattle.std.proofs.lemmas.List.Folds.{Any-from_list_any}
use Rattle.std.proofs.lemmas.List.Sorted.{IsPermutation-insert, list_any-IsPermutation}
use Rattle.std.proofs.lemmas.Option.{get_or_from_slice_get, none-some, slice_get-get_or, slice_get_within}
use Rattle.mapdb_lists.specs.declared.own_place.OwnPlace.{OwnPlace}
use Rattle.mapdb_lists.specs.Ascending.{Ascend, IsAtIndex}
use Rattle.mapdb_lists.specs.OwnPlaces.{IsFirstPlaceWhere, IsLeastPlace, is_beyond, place_cmp, stands, start}
use Rattle.mapdb_lists.proofs.Lists.ListedOrder.{less_from}
use Rattle.mapdb_lists.proofs.PlaceLemmas.LeastPlaces.{item_stands}
use Rattle.mapdb_lists.proofs.PlaceLemmas.PlaceOrder.{at_back, exact_own, le_itself, not_before, place_total, same_or_above}

-- where a place that stands in the list stands
pub record IsIndexOf (places : List OwnPlace) (p : OwnPlace) : Type 0 where
  pub index : ℕ
  pub inside : index < length places
  pub here : (d : OwnPlace) → get_or places index d ≡ p

pub index_of : (places : List OwnPlace) (p : OwnPlace) → stands places p ≡ true → IsIndexOf places p
index_of places p has =
    let found = Any-from_list_any (is_at (place_cmp p)) places has in
    record {
      index = found.0;
      inside = found.2;
      here = λ d. get_or_default places found.0 d found.1 found.2 ∙ found.3 ∙ sym (exact_own p found.1 found.4);
    }

pub at_stands : (places : List OwnPlace) (index : ℕ) (p : OwnPlace) → IsAtIndex places index p → stands places p ≡ true
at_stands places index p at = subst (λ (x : OwnPlace). stands places x ≡ true) (at.1 p) (item_stands places index p at.0)

-- where nothing stands, the list has ended
pub past : (places : List OwnPlace) (index : ℕ) → slice_get places index ≡ None → length places ≤ index
past places index none = elim (two index (length places)) [
  | inl inside ↦ absurd (none-some (get_or places index (start 0 0)) (sym none ∙ slice_get-get_or places index (start 0 0) inside))
  | inr ends ↦ ends
]
  where
    two : (i j : ℕ) → (i < j) ⊎ (j ≤ i)
    two i j = grind (arith)

pub got : (places : List OwnPlace) (index : ℕ) (p : OwnPlace) → slice_get places index ≡ Some p → IsAtIndex places index p
got places index p e = (slice_get_within places index p e, λ d. get_or_from_slice_get places index p d e)

-- ---- what comes before what

not_both : (a b : OwnPlace) → place_cmp a b ≡ Less → place_cmp b a ≡ Less → ⊥
not_both a b up down = true≢false (sym (ap is_lt up) ∙ ap is_lt (place_total.antisymm a b) ∙ ap (λ (o : Ordering). is_lt (ordering_reverse o)) down)

pub not_itself : (a : OwnPlace) → place_cmp a a ≡ Less → ⊥
not_itself a less = not_both a a less less

-- of two indices, as of two places
module _ (places : List OwnPlace) (ascend : Ascend places) where
  pub up : (i j : ℕ) (p q : OwnPlace) → i < j → IsAtIndex places i p → IsAtIndex places j q → place_cmp p q ≡ Less
  up i j p q less one other =
      subst (λ (x : OwnPlace). place_cmp x q ≡ Less) (one.1 p)
      (subst (λ (x : OwnPlace). place_cmp (get_or places i p) x ≡ Less) (other.1 p) (ascend i j p less other.0))

  one_place : (i j : ℕ) (p q : OwnPlace) → i ≡ j → IsAtIndex places i p → IsAtIndex places j q → p ≡ q
  one_place i j p q same one other = sym (one.1 p) ∙ ap (λ k. get_or places k p) same ∙ other.1 p

  -- what stands no further in front comes no later
  pub no_later : (i j : ℕ) (p q : OwnPlace) → i ≤ j → IsAtIndex places i p → IsAtIndex places j q → is_gt (place_cmp p q) ≡ false
  no_later i j p q upto one other = elim (parted i j upto) [
    | inl same ↦ subst (λ (x : OwnPlace). is_gt (place_cmp p x) ≡ false) (one_place i j p q same one other) (le_itself p)
    | inr less ↦ ap is_gt (up i j p q less one other)
  ]
    where
      parted : (i j : ℕ) → i ≤ j → (i ≡ j) ⊎ (i < j)
      parted i j upto = grind (arith)

  -- what comes after a place stands behind it
  pub is_behind : (i j : ℕ) (p q : OwnPlace) → IsAtIndex places i p → IsAtIndex places j q → place_cmp p q ≡ Less → i < j
  is_behind i j p q one other less = elim (three i j) [
    | inl behind ↦ behind
    | inr upto ↦ absurd (by (same_or_above q p (no_later j i q p upto other one)))
  ]
    where
      three : (i j : ℕ) → (i < j) ⊎ (j ≤ i)
      three i j = grind (arith)

      by : (q ≡ p) ⊎ (place_cmp q p ≡ Less) → ⊥
      by (inl same) = not_itself p (subst (λ (x : OwnPlace). place_cmp p x ≡ Less) same less)
      by (inr back) = not_both p q less back

  -- ---- the place behind one

  pub next_is : (index : ℕ) (p q : OwnPlace) → IsAtIndex places index p → IsAtIndex places (index + 1) q → IsLeastPlace (is_beyond (Some p)) places q
  next_is index p q here next = record {
    held = at_stands places (index + 1) q next;
    passing = ap is_lt (up index (index + 1) p q (omega arith) here next);
    least =
        λ k has above.
        let at = index_of places k has in
        let behind = is_behind index at.index p k here (at.inside, at.here) (less_from (place_cmp p k) above) in
        no_later (index + 1) at.index q k (omega (arith, behind)) next (at.inside, at.here);
  }

  pub none_next : (index : ℕ) (p : OwnPlace) → IsAtIndex places index p → length places ≤ index + 1 → (k : OwnPlace) → stands places k ≡ true → is_lt (place_cmp p k) ≡ false
  none_next index p here ends k has = elim (cases_Bool (is_lt (place_cmp p k))) [
    | inl above ↦
        let at = index_of places k has in
        let behind = is_behind index at.index p k here (at.inside, at.here) (less_from (place_cmp p k) above) in
        absurd (omega (arith, behind, at.inside, ends))
    | inr not_above ↦ not_above
  ]

  -- the place behind one, or none
  pub behind_one : (index : ℕ) (p : OwnPlace) → IsAtIndex places index p → IsFirstPlaceWhere (is_beyond (Some p)) places (slice_get places (index + 1))
  behind_one index p here = by (slice_get places (index + 1)) refl
    where
      by : (r : Option OwnPlace) → slice_get places (index + 1) ≡ r → IsFirstPlaceWhere (is_beyond (Some p)) places r
      by None e = none_next index p here (past places (index + 1) e)
      by (Some q) e = next_is index p q here (got places (index + 1) q e)

  -- ---- the first place that passes, behind all that fail

  module _ (front test : OwnPlace → Bool) (apart : (k : OwnPlace) → front k ≡ not (test k)) (index : ℕ)
      (parted : IsPartitionPoint (λ y. front y ≡ true) (λ y. front y ≡ false) places index) where
    passes_behind : (k : OwnPlace) (at : IsIndexOf places k) → test k ≡ true → index ≤ at.index
    passes_behind k at passes = elim (two at.index index) [
      | inl before ↦ absurd (true≢false (sym (ap front (sym (at.here k)) ∙ parted.0 at.index k (omega arith) before) ∙ apart k ∙ ap not passes))
      | inr behind ↦ behind
    ]
      where
        two : (i j : ℕ) → (i < j) ⊎ (j ≤ i)
        two i j = grind (arith)

    pub first_is : (p : OwnPlace) → IsAtIndex places index p → IsLeastPlace test places p
    first_is p here = record {
      held = at_stands places index p here;
      passing = by (test p) refl;
      least = λ k has passes. let at = index_of places k has in no_later index at.index p k (passes_behind k at passes) here (at.inside, at.here);
    }
      where
        by : (b : Bool) → test p ≡ b → test p ≡ true
        by true e = e
        by false e =
            absurd (true≢false (ap not (sym e) ∙ sym (apart p) ∙ ap front (sym (here.1 p)) ∙ parted.1 index p (omega arith) here.0))

    pub none_from : length places ≤ index → (k : OwnPlace) → stands places k ≡ true → test k ≡ false
    none_from ends k has = elim (cases_Bool (test k)) [
      | inl passes ↦
          let at = index_of places k has in
          let behind = passes_behind k at passes in
          absurd (omega (arith, behind, at.inside, ends))
      | inr fails ↦ fails
    ]

pub at_index : (places : List OwnPlace) (i : ℕ) (d : OwnPlace) → i < length places → IsAtIndex places i (get_or places i d)
at_index places i d inside = (inside, λ e. get_or_default places i e d inside)

-- an element that was read is at its index
pub item_at : (places : List OwnPlace) (i : ℕ) (x : OwnPlace) → x ≡ get_or places i x → i < length places → IsAtIndex places i x
item_at places i x is inside = subst (λ (p : OwnPlace). IsAtIndex places i p) (sym is) (at_index places i x inside)

-- ---- as a halving finds it

module _ (places : List OwnPlace) (ascend : Ascend places) where
  same_or_less : (i j : ℕ) → i ≤ j → (i ≡ j) ⊎ (i < j)
  same_or_less i j upto = grind (arith)

  -- what comes before a place stands in front
  pub before_parts : (from : OwnPlace) → IsPartitionedBy (λ y. is_lt (place_cmp y from)) places
  before_parts from i j d upto inside before = elim (same_or_less i j upto) [
    | inl same ↦ subst (λ k. is_lt (place_cmp (get_or places k d) from) ≡ true) (sym same) before
    | inr less ↦ ap is_lt (place_total.trans (get_or places i d) (get_or places j d) from (ascend i j d less inside) (less_from _ before))
  ]

  -- what does not come after a place stands in front
  pub after_parts : (after : OwnPlace) → IsPartitionedBy (λ y. not (is_lt (place_cmp after y))) places
  after_parts after i j d upto inside front = elim (cases_Bool (is_lt (place_cmp after (get_or places i d)))) [
    | inr not_after ↦ ap not not_after
    | inl behind ↦ elim (same_or_less i j upto) [
      | inl same ↦ subst (λ k. not (is_lt (place_cmp after (get_or places k d))) ≡ true) (sym same) front
      | inr less ↦
          let further = place_total.trans after (get_or places i d) (get_or places j d) (less_from _ behind) (ascend i j d less inside) in
          absurd (true≢false (sym front ∙ ap (λ (o : Ordering). not (is_lt o)) further))
    ]
  ]

  -- the first place that passes, or none
  pub first_where : (front test : OwnPlace → Bool) → ((k : OwnPlace) → front k ≡ not (test k)) → (index : ℕ)
      → IsPartitionPoint (λ y. front y ≡ true) (λ y. front y ≡ false) places index → IsFirstPlaceWhere test places (slice_get places index)
  first_where front test apart index parted = by (slice_get places index) refl
    where
      by : (r : Option OwnPlace) → slice_get places index ≡ r → IsFirstPlaceWhere test places r
      by None e = none_from places ascend front test apart index parted (past places index e)
      by (Some p) e = first_is places ascend front test apart index parted p (got places index p e)

  -- ---- one place more

  module _ (index : ℕ) (p : OwnPlace) (upto : index ≤ length places)
      (below : (k : ℕ) (d : OwnPlace) → k < index → place_cmp (get_or places k d) p ≡ Less)
      (above : (k : ℕ) (d : OwnPlace) → index ≤ k → k < length places → place_cmp p (get_or places k d) ≡ Less) where
    new_low : (k : ℕ) (d : OwnPlace) → k < index → get_or (insert places index p) k d ≡ get_or places k d
    new_low k d less = get_or-insert_below places index p d k less upto

    new_here : (d : OwnPlace) → get_or (insert places index p) index d ≡ p
    new_here d = get_or-insert_at places index p d upto

    new_high : (k : ℕ) (d : OwnPlace) → index < k → get_or (insert places index p) k d ≡ get_or places (k - 1) d
    new_high k d less =
        ap (λ n. get_or (insert places index p) n d) (again k index less) ∙ get_or-insert_above places index p d (k - 1) (omega arith) upto
      where
        again : (k index : ℕ) → index < k → k ≡ k - 1 + 1
        again k index less = omega arith

    pair : (i j : ℕ) (d a b : OwnPlace) → get_or (insert places index p) i d ≡ a → get_or (insert places index p) j d ≡ b → place_cmp a b ≡ Less
        → place_cmp (get_or (insert places index p) i d) (get_or (insert places index p) j d) ≡ Less
    pair i j d a b one other less = (λ n. place_cmp (one n) (other n)) ∙ less

    three : (k : ℕ) → (k < index) ⊎ ((k ≡ index) ⊎ (index < k))
    three k = grind (arith)

    pub ascend_insert : Ascend (insert places index p)
    ascend_insert i j d less inside =
        let inside_old : j < length places + 1 = subst (λ n. j < n) (length-insert places index p upto) inside in
        elim (three i) [
          | inl low ↦ elim (three j) [
            | inl low_too ↦ pair i j d _ _ (new_low i d low) (new_low j d low_too) (ascend i j d less (omega (arith, low_too, upto)))
            | inr more ↦ elim more [
              | inl here ↦ pair i j d _ _ (new_low i d low) (ap (λ n. get_or (insert places index p) n d) here ∙ new_here d) (below i d low)
              | inr high ↦ pair i j d _ _ (new_low i d low) (new_high j d high) (ascend i (j - 1) d (omega (arith, low, high)) (omega (arith, high, inside_old)))
            ]
          ]
          | inr more ↦ elim more [
            | inl here ↦
                pair i j d _ _ (ap (λ n. get_or (insert places index p) n d) here ∙ new_here d) (new_high j d (omega (arith, here, less)))
                (above (j - 1) d (omega (arith, here, less)) (omega (arith, here, less, inside_old)))
            | inr high ↦
                pair i j d _ _ (new_high i d high) (new_high j d (omega (arith, high, less)))
                (ascend (i - 1) (j - 1) d (omega (arith, high, less)) (omega (arith, high, less, inside_old)))
          ]
        ]

  -- where none that stands there is the new one
  pub put_ascends : (index : ℕ) (p : OwnPlace) → index ≤ length places
      → IsPartitionPoint (λ y. is_lt (place_cmp y p) ≡ true) (λ y. is_lt (place_cmp y p) ≡ false) places index
      → ((d : OwnPlace) → index < length places → ¬ (get_or places index d ≡ p)) → Ascend (insert places index p)
  put_ascends index p upto parted new =
      ascend_insert index p upto (λ k d low. less_from _ (parted.0 k d (omega arith) low)) later
    where
      first : (d : OwnPlace) → index < length places → place_cmp p (get_or places index d) ≡ Less
      first d inside = elim (same_or_above p (get_or places index d) (not_before (get_or places index d) p (parted.1 index d (omega arith) inside))) [
        | inl same ↦ absurd (new d inside (sym same))
        | inr less ↦ less
      ]

      later : (k : ℕ) (d : OwnPlace) → index ≤ k → k < length places → place_cmp p (get_or places k d) ≡ Less
      later k d up inside = elim (same_or_less index k up) [
        | inl same ↦ subst (λ n. place_cmp p (get_or places n d) ≡ Less) same (first d (omega (arith, up, inside)))
        | inr less ↦ place_total.trans p (get_or places index d) (get_or places k d) (first d (omega (arith, up, inside))) (ascend index k d less inside)
      ]

-- what stands there is the new place or stood there before
pub put_stands : (places : List OwnPlace) (index : ℕ) (p k : OwnPlace) → stands (insert places index p) k ≡ (is_at (place_cmp p) k || stands places k)
put_stands places index p k =
    sym (list_any-IsPermutation (is_at (place_cmp k)) (p ∷ places) (insert places index p) (IsPermutation-insert places index p))
    ∙ ap (λ (b : Bool). b || stands places k) (at_back k p)

-- what does not come before a place stands inside its bound
pub not_from : (from k : OwnPlace) → is_lt (place_cmp k from) ≡ not (is_le (place_cmp from k))
not_from from k = ap is_lt (place_total.antisymm k from) ∙ by (place_cmp from k)
  where
    by : (o : Ordering) → is_lt (ordering_reverse o) ≡ not (is_le o)
    by Less = refl
    by Equal = refl
    by Greater = refl
