-- What the places of one owner say of all that is listed.
use Rattle.std.proofs.Common.{◌≡◌, ℕ, Bool, true, false, cond, refl, sym, ap, List, [], ◌∷◌, ◌++◌, map, ◌∙◌, inl, inr}
use Rattle.std.specs.Prelude.{◌||◌, Option, None, Some, IfSome, option_map}
use Rattle.std.specs.BTreeMap.{is_at}
use Rattle.std.specs.BTreeMap.Range.{is_from_start}
use Rattle.std.specs.List.{list_any}
use Rattle.std.specs.Map.{lookup}
use Rattle.std.specs.Ordering.{is_eq, is_gt, is_lt}
use Rattle.std.specs.declared.ops.Bound.TheVariants.{Excluded, Included}
use Rattle.std.proofs.lemmas.Bool.{cases_Bool, cond-false, cond-true, false≢true, or_right, true≢false}
use Rattle.std.proofs.lemmas.List.Folds.{list_any-append}
use Rattle.mapdb_lists.specs.declared.own_place.OwnPlace.{OwnPlace}
use Rattle.mapdb_lists.specs.declared.own_places.OwnPlaces.{OwnPlaces}
use Rattle.mapdb_lists.specs.declared.places.Listed.{Listed}
use Rattle.mapdb_lists.specs.declared.places.Owner.{Owner}
use Rattle.mapdb_lists.specs.declared.places.Places.{Places}
use Rattle.mapdb_lists.specs.Listing.{AllAligned, IsFirstInside, IsNextMeeting, entries_among, is_above, is_among, is_listed, listed_cmp, listed_for, own_place, places_among, places_in, same_owner}
use Rattle.mapdb_lists.specs.OwnPlaces.{AreAligned, IsFirstPlaceWhere, IsNextPlace, is_beyond, own_list, place_cmp, stands}
use Rattle.mapdb_lists.proofs.Lists.ListedOrder.{exact_owner, less_from, listed_apart, owner_is, same_then}
use Rattle.mapdb_lists.proofs.PlaceLemmas.PlaceOrder.{le_as, le_is}

-- the places of an owner that has some, and of one that has none
pub places_found : (owners : List (Owner × OwnPlaces)) (key : Owner) (own : OwnPlaces) → Some own ≡ lookup (same_owner key) owners → places_among owners key ≡ own_list own
places_found owners key own h = ap places_in (sym h)

pub places_absent : (owners : List (Owner × OwnPlaces)) (key : Owner) → None ≡ lookup (same_owner key) owners → places_among owners key ≡ []
places_absent owners key h = ap places_in (sym h)

-- ---- entries of one owner compare as their places

pub cmp_is : (a b : Listed) → a.owner ≡ b.owner → listed_cmp a b ≡ place_cmp (own_place a) (own_place b)
cmp_is a b same = same_then a b same

-- ---- the places of an owner among those of all

module _ (set : Places) (owner : Owner) (places : List OwnPlace) (is : places_among set.own.entries owner ≡ places) where
  pub there : (k : Listed) → k.owner ≡ owner → is_listed set k ≡ true → stands places (own_place k) ≡ true
  there k own has =
      sym (ap (λ (l : List OwnPlace). stands l (own_place k)) is) ∙ ap (λ (o : Owner). stands (places_among set.own.entries o) (own_place k)) (sym own) ∙ has

  pub back : (p : OwnPlace) → stands places p ≡ true → is_listed set (listed_for owner p) ≡ true
  back p has = ap (λ (l : List OwnPlace). stands l p) is ∙ has

  pub own_aligned : AllAligned set → AreAligned places
  own_aligned all p has = all (listed_for owner p) (back p has)

  pub first_from_own : (from : Listed) → from.owner ≡ owner → (r : Option OwnPlace) → IsFirstPlaceWhere (is_from_start place_cmp (Included (own_place from))) places r
      → IsFirstInside set owner (Included from) (option_map (listed_for owner) r)
  first_from_own from same None h = λ k has own up.
      true≢false (sym (le_as (place_cmp (own_place from) (own_place k)) (sym (ap is_gt (cmp_is from k (same ∙ sym own))) ∙ up)) ∙ h (own_place k) (there k own has))
  first_from_own from same (Some p) h = record {
    held = back p h.held;
    owned = refl;
    inside = ap is_gt (cmp_is from (listed_for owner p) same) ∙ le_is (place_cmp (own_place from) p) h.passing;
    least = λ k has own up. ap is_gt (cmp_is (listed_for owner p) k (sym own))
        ∙ h.least (own_place k) (there k own has) (le_as (place_cmp (own_place from) (own_place k)) (sym (ap is_gt (cmp_is from k (same ∙ sym own))) ∙ up));
  }

  pub first_above_own : (after : Listed) → after.owner ≡ owner → (r : Option OwnPlace) → IsFirstPlaceWhere (is_from_start place_cmp (Excluded (own_place after))) places r
      → IsFirstInside set owner (Excluded after) (option_map (listed_for owner) r)
  first_above_own after same None h = λ k has own up.
      true≢false (sym (sym (ap is_lt (cmp_is after k (same ∙ sym own))) ∙ ap is_lt up) ∙ h (own_place k) (there k own has))
  first_above_own after same (Some p) h = record {
    held = back p h.held;
    owned = refl;
    inside = cmp_is after (listed_for owner p) same ∙ less_from (place_cmp (own_place after) p) h.passing;
    least = λ k has own up. ap is_gt (cmp_is (listed_for owner p) k (sym own))
        ∙ h.least (own_place k) (there k own has) (sym (ap is_lt (cmp_is after k (same ∙ sym own))) ∙ ap is_lt up);
  }

  above_is : (after : Option Listed) → IfSome after (λ e. e.owner ≡ owner) → (k : Listed) → k.owner ≡ owner → is_above after k ≡ is_beyond (option_map own_place after) (own_place k)
  above_is None own k at = refl
  above_is (Some a) own k at = ap is_lt (cmp_is a k (own ∙ sym at))

  pub next_own : (first end : ℕ) (after : Option Listed) → IfSome after (λ e. e.owner ≡ owner) → (r : Option OwnPlace)
      → IsNextPlace places first end (option_map own_place after) r → IsNextMeeting set owner first end after (option_map (listed_for owner) r)
  next_own first end after same None h = λ k has own above. h (own_place k) (there k own has) (sym (above_is after same k own) ∙ above)
  next_own first end after same (Some p) h = record {
    held = back p h.held;
    owned = refl;
    above = above_is after same (listed_for owner p) refl ∙ h.above;
    meeting = h.meeting;
    least = λ k has own above meeting. ap is_gt (cmp_is (listed_for owner p) k (sym own))
        ∙ h.least (own_place k) (there k own has) (sym (above_is after same k own) ∙ above) meeting;
  }

-- ---- one entry more

module _ (old new : List (Owner × OwnPlaces)) (entry : Listed) (own : OwnPlaces)
    (at_key : (q : Owner) → lookup (same_owner q) new ≡ cond (same_owner entry.owner q) (Some own) (lookup (same_owner q) old))
    (put : (k : OwnPlace) → stands (own_list own) k ≡ (is_at (place_cmp (own_place entry)) k || stands (places_among old entry.owner) k)) where
  at_other : (e : Listed) → same_owner entry.owner e.owner ≡ false → is_among new e ≡ (is_at (listed_cmp entry) e || is_among old e)
  at_other e other =
      ap (λ (o : Option OwnPlaces). stands (places_in o) (own_place e)) (at_key e.owner ∙ cond-false (same_owner entry.owner e.owner) (Some own) (lookup (same_owner e.owner) old) other)
      ∙ sym (ap (λ (b : Bool). b || is_among old e) (listed_apart entry e other))

  at_own : (e : Listed) → entry.owner ≡ e.owner → is_among new e ≡ (is_at (listed_cmp entry) e || is_among old e)
  at_own e same =
      ap (λ (o : Option OwnPlaces). stands (places_in o) (own_place e))
      (at_key e.owner ∙ cond-true (same_owner entry.owner e.owner) (Some own) (lookup (same_owner e.owner) old) (owner_is entry.owner e.owner same))
      ∙ put (own_place e)
      ∙ (λ i. is_eq (sym (cmp_is entry e same) i) || stands (places_among old (same i)) (own_place e))

  pub put_among : (e : Listed) → is_among new e ≡ (is_at (listed_cmp entry) e || is_among old e)
  put_among e = elim (cases_Bool (same_owner entry.owner e.owner)) [
    | inl same ↦ at_own e (exact_owner entry.owner e.owner same)
    | inr other ↦ at_other e other
  ]

-- ---- what is listed stands among all entries

any_first : {X : Type 0} (t : X → Bool) (xs ys : List X) → list_any t xs ≡ true → list_any t (xs ++ ys) ≡ true
any_first t xs ys h = list_any-append t xs ys ∙ ap (λ (b : Bool). b || list_any t ys) h

any_later : {X : Type 0} (t : X → Bool) (xs ys : List X) → list_any t ys ≡ true → list_any t (xs ++ ys) ≡ true
any_later t xs ys h = list_any-append t xs ys ∙ or_right (list_any t xs) (list_any t ys) h

any_owned : (e : Listed) (o : Owner) (ps : List OwnPlace) → o ≡ e.owner → stands ps (own_place e) ≡ true → list_any (is_at (listed_cmp e)) (map (listed_for o) ps) ≡ true
any_owned e o [] same h = absurd (false≢true h)
any_owned e o (p ∷ ps) same h =
    by (is_at (place_cmp (own_place e)) p) (is_at (listed_cmp e) (listed_for o p)) (stands ps (own_place e)) (list_any (is_at (listed_cmp e)) (map (listed_for o) ps))
    (ap is_eq (cmp_is e (listed_for o p) (sym same))) (any_owned e o ps same) h
  where
    by : (a b c d : Bool) → b ≡ a → (c ≡ true → d ≡ true) → (a || c) ≡ true → (b || d) ≡ true
    by true b c d alike rest h = ap (λ (t : Bool). t || d) alike
    by false b c d alike rest h = ap (λ (t : Bool). t || d) alike ∙ rest h

pub among_all : (owners : List (Owner × OwnPlaces)) (e : Listed) → is_among owners e ≡ true → list_any (is_at (listed_cmp e)) (entries_among owners) ≡ true
among_all [] e has = absurd (false≢true has)
among_all (o ∷ owners) e has = elim (cases_Bool (same_owner e.owner o.0)) [
  | inl same ↦ any_first (is_at (listed_cmp e)) (map (listed_for o.0) (own_list o.1)) (entries_among owners)
      (any_owned e o.0 (own_list o.1) (sym (exact_owner e.owner o.0 same))
      (sym (ap (λ (found : Option OwnPlaces). stands (places_in found) (own_place e)) (cond-true (same_owner e.owner o.0) (Some o.1) (lookup (same_owner e.owner) owners) same)) ∙ has))
  | inr other ↦ any_later (is_at (listed_cmp e)) (map (listed_for o.0) (own_list o.1)) (entries_among owners)
      (among_all owners e
      (sym (ap (λ (found : Option OwnPlaces). stands (places_in found) (own_place e)) (cond-false (same_owner e.owner o.0) (Some o.1) (lookup (same_owner e.owner) owners) other)) ∙ has))
]
