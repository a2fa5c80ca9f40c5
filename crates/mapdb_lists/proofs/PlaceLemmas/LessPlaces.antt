-- A place less: what stands in a list, at an owner, and among all that is listed once a place was taken out.
use Rattle.std.proofs.Common.{◌≡◌, ℕ, ◌+◌, ◌<◌, ◌≤◌, Bool, true, false, cond, refl, sym, ap, subst, List, ◌∷◌, get_or, length, ◌∙◌, inl, inr, arith}
use Rattle.std.specs.Prelude.{◌⊎◌, ◌&&◌, ◌||◌, not, filter, Option, None, Some}
use Rattle.std.specs.BTreeMap.{is_at}
use Rattle.std.specs.List.{remove}
use Rattle.std.specs.List.Sorted.{IsPartitionPoint}
use Rattle.std.specs.Map.{lookup}
use Rattle.std.specs.Ordering.{is_eq, is_lt}
use Rattle.std.specs.declared.cmp.Ordering.TheVariants.{Less}
use Rattle.std.proofs.lemmas.Bool.{cases_Bool, cond-false, cond-true, false_from_ne_true, true≢false}
use Rattle.std.proofs.lemmas.List.Edits.{get_or-remove_above, get_or-remove_below, length-remove}
use Rattle.std.proofs.lemmas.List.Sorted.{IsPermutation-remove, list_any-IsPermutation}
use Rattle.std.proofs.lemmas.Map.Views.{any-filter_same}
use Rattle.mapdb_lists.specs.declared.own_place.OwnPlace.{OwnPlace}
use Rattle.mapdb_lists.specs.declared.own_places.OwnPlaces.{OwnPlaces}
use Rattle.mapdb_lists.specs.declared.places.Listed.{Listed}
use Rattle.mapdb_lists.specs.declared.places.Owner.{Owner}
use Rattle.mapdb_lists.specs.Ascending.{Ascend, IsAtIndex}
use Rattle.mapdb_lists.specs.Listing.{IsRemoved, is_among, listed_cmp, own_place, places_among, places_in, same_owner}
use Rattle.mapdb_lists.specs.OwnPlaces.{own_list, place_cmp, stands}
use Rattle.mapdb_lists.proofs.Lists.ListedOrder.{exact_owner, less_from, listed_apart}
use Rattle.mapdb_lists.proofs.PlaceLemmas.OwnersPlaces.{cmp_is}
use Rattle.mapdb_lists.proofs.PlaceLemmas.PlaceLists.{index_of, not_itself, up}
use Rattle.mapdb_lists.proofs.PlaceLemmas.PlaceOrder.{at_back, same_own, exact_own, same_at_own}

-- ---- of two lists, which of them one place is left out of

-- the place itself is gone, and each other stays
without : (old new : List OwnPlace) (p k : OwnPlace) → stands new p ≡ false → (is_at (place_cmp p) k ≡ false → stands new k ≡ stands old k)
    → stands new k ≡ (not (is_at (place_cmp p) k) && stands old k)
without old new p k gone stays = elim (cases_Bool (is_at (place_cmp p) k)) [
  | inl here ↦ subst (λ (x : OwnPlace). stands new x ≡ false) (exact_own p k here) gone ∙ sym (ap (λ (b : Bool). not b && stands old k) here)
  | inr other ↦ stays other ∙ sym (ap (λ (b : Bool). not b && stands old k) other)
]

-- one that does not stand there leaves all as they are
pub absent_stands : (places : List OwnPlace) (p k : OwnPlace) → stands places p ≡ false → stands places k ≡ (not (is_at (place_cmp p) k) && stands places k)
absent_stands places p k gone = without places places p k gone (λ other. refl)

-- ---- a list in order

module _ (places : List OwnPlace) (ascend : Ascend places) (index : ℕ) (inside : index < length places) where
  low : (k : ℕ) (d : OwnPlace) → k < index → get_or (remove places index) k d ≡ get_or places k d
  low k d less = get_or-remove_below places index d k less inside

  high : (k : ℕ) (d : OwnPlace) → index ≤ k → get_or (remove places index) k d ≡ get_or places (k + 1) d
  high k d upto = get_or-remove_above places index d k upto inside

  two : (k : ℕ) → (k < index) ⊎ (index ≤ k)
  two k = grind (arith)

  -- the place of the index no longer stands there: it stood once
  gone : (p : OwnPlace) → IsAtIndex places index p → stands (remove places index) p ≡ false
  gone p here = false_from_ne_true (stands (remove places index) p) (λ has.
      let at = index_of (remove places index) p has in
      let shorter : length (remove places index) + 1 ≡ length places = length-remove places index inside in
      elim (two at.index) [
        | inl front ↦ not_itself p (up places ascend at.index index p p front (omega (arith, front, inside), λ d. sym (low at.index d front) ∙ at.here d) here)
        | inr behind ↦ not_itself p (up places ascend index (at.index + 1) p p (omega (arith, behind)) here
            (omega (arith, at.inside, shorter), λ d. sym (high at.index d behind) ∙ at.here d))
      ])

  -- each other does
  pub remove_stands : (p k : OwnPlace) → IsAtIndex places index p → stands (remove places index) k ≡ (not (is_at (place_cmp p) k) && stands places k)
  remove_stands p k here = without places (remove places index) p k (gone p here) (λ other.
      sym (list_any-IsPermutation (is_at (place_cmp k)) places (p ∷ remove places index) (IsPermutation-remove places index p inside (sym (here.1 p)))
      ∙ ap (λ (b : Bool). b || stands (remove places index) k) (at_back k p ∙ other)))

-- what a halving does not find stands nowhere
pub stands_nowhere : (places : List OwnPlace) → Ascend places → (index : ℕ) (p : OwnPlace)
    → IsPartitionPoint (λ y. is_lt (place_cmp y p) ≡ true) (λ y. is_lt (place_cmp y p) ≡ false) places index
    → ((d : OwnPlace) → index < length places → ¬ (get_or places index d ≡ p)) → stands places p ≡ false
stands_nowhere places ascend index p parted new =
    false_from_ne_true (stands places p) (λ has. let at = index_of places p has in by at.index at.inside at.here (three at.index))
  where
    three : (i : ℕ) → (i < index) ⊎ ((index ≡ i) ⊎ (index < i))
    three i = grind (arith)

    by : (i : ℕ) → i < length places → ((d : OwnPlace) → get_or places i d ≡ p) → (i < index) ⊎ ((index ≡ i) ⊎ (index < i)) → ⊥
    by i inside here (inl front) =
        not_itself p (less_from (place_cmp p p) (subst (λ (x : OwnPlace). is_lt (place_cmp x p) ≡ true) (here p) (parted.0 i p (omega arith) front)))
    by i inside here (inr (inl same)) = new p (omega (arith, same, inside)) (ap (λ n. get_or places n p) same ∙ here p)
    by i inside here (inr (inr behind)) =
        true≢false (sym (ap is_lt (subst (λ (x : OwnPlace). place_cmp (get_or places index p) x ≡ Less) (here p) (ascend index i p behind inside)))
        ∙ parted.1 index p (omega arith) (omega (arith, behind, inside)))

-- ---- a few places as they came

-- what a comparison tells apart differs in the order
pub at_ne : (p x : OwnPlace) → not (same_own x p) ≡ not (is_at (place_cmp p) x)
at_ne p x = ap not (sym (same_at_own x p) ∙ at_back x p)

-- without each that equals a place
pub few_without : (places : List OwnPlace) (p k : OwnPlace) → stands (filter (λ x. not (is_at (place_cmp p) x)) places) k ≡ (not (is_at (place_cmp p) k) && stands places k)
few_without places p k =
    any-filter_same (is_at (place_cmp k)) (λ x. not (is_at (place_cmp p) x)) (not (is_at (place_cmp p) k))
    (λ x same. ap (λ (y : OwnPlace). not (is_at (place_cmp p) y)) (sym (exact_own k x same))) places

-- ---- by the key of an owner

-- a key that had places has them without this one
pub removed_own : (K : Type 0) (same : K → K → Bool) (old new : List (K × OwnPlaces)) (key : K) (place : OwnPlace) (was own : OwnPlaces) → same key key ≡ true
    → Some was ≡ lookup (same key) old → ((q : K) → lookup (same q) new ≡ cond (same key q) (Some own) (lookup (same q) old))
    → ((k : OwnPlace) → stands (own_list own) k ≡ (not (is_at (place_cmp place) k) && stands (own_list was) k)) → IsRemoved K same old new key place
removed_own K same old new key place was own itself found given removed = record {
  removed = λ k. ap (λ (o : Option OwnPlaces). stands (places_in o) k) (given key ∙ cond-true (same key key) (Some own) (lookup (same key) old) itself)
      ∙ removed k ∙ ap (λ (o : Option OwnPlaces). not (is_at (place_cmp place) k) && stands (places_in o) k) found;
  others = λ q other. given q ∙ cond-false (same key q) (Some own) (lookup (same q) old) other;
}

-- one that had none has none
pub removed_none : (K : Type 0) (same : K → K → Bool) (old : List (K × OwnPlaces)) (key : K) (place : OwnPlace) → None ≡ lookup (same key) old
    → IsRemoved K same old old key place
removed_none K same old key place none = record {
  removed = λ k. absent_stands (places_in (lookup (same key) old)) place k (ap (λ (o : Option OwnPlaces). stands (places_in o) place) (sym none));
  others = λ q other. refl;
}

-- ---- one entry less

module _ (old new : List (Owner × OwnPlaces)) (entry : Listed) (h : IsRemoved Owner same_owner old new entry.owner (own_place entry)) where
  among_other : (e : Listed) → same_owner entry.owner e.owner ≡ false → is_among new e ≡ (not (is_at (listed_cmp entry) e) && is_among old e)
  among_other e other =
      ap (λ (o : Option OwnPlaces). stands (places_in o) (own_place e)) (h.others e.owner other)
      ∙ sym (ap (λ (b : Bool). not b && is_among old e) (listed_apart entry e other))

  among_own : (e : Listed) → entry.owner ≡ e.owner → is_among new e ≡ (not (is_at (listed_cmp entry) e) && is_among old e)
  among_own e same =
      ap (λ (o : Owner). stands (places_among new o) (own_place e)) (sym same)
      ∙ h.removed (own_place e)
      ∙ (λ i. not (is_eq (sym (cmp_is entry e same) i)) && stands (places_among old (same i)) (own_place e))

  pub removed_among : (e : Listed) → is_among new e ≡ (not (is_at (listed_cmp entry) e) && is_among old e)
  removed_among e = elim (cases_Bool (same_owner entry.owner e.owner)) [
    | inl same ↦ among_own e (exact_owner entry.owner e.owner same)
    | inr other ↦ among_other e other
  ]
