-- What a sweep over the places of one owner has ahead.
use Rattle.std.proofs.Common.{◌≡◌, ℕ, ◌<◌, Bool, true, false, refl, sym, ap, subst, List, [], ◌∷◌, length, ◌∙◌, arith, inl, inr}
use Rattle.std.specs.Prelude.{◌&&◌, Option, None, Some, filter, if◌then◌else◌}
use Rattle.std.specs.BTreeMap.{is_at}
use Rattle.std.specs.Ordering.{is_lt}
use Rattle.std.proofs.lemmas.Bool.{and_from, and_parts, true≢false}
use Rattle.std.proofs.lemmas.Cmp.{tied_itself}
use Rattle.std.proofs.lemmas.Map.Views.{any-filter_same}
use Rattle.std.proofs.lemmas.Option.{none-some, same_Some}
use Rattle.mapdb_lists.specs.declared.own_places.FoundPlace.{FoundPlace}
use Rattle.mapdb_lists.specs.declared.own_place.OwnPlace.{OwnPlace}
use Rattle.mapdb_lists.specs.declared.own_places.OwnPlaces.{OwnPlaces}
use Rattle.mapdb_lists.specs.declared.own_places.OwnPlaces.TheVariants.{Few, Many, One}
use Rattle.mapdb_lists.specs.declared.own_places.Sweep.{Sweep}
use Rattle.mapdb_lists.specs.OwnPlaces.{IsLastWhereSaid, IsLeastNext, IsNextPlace, IsSweptTo, ahead, at_start, few_list, is_beyond, many_ahead, own_list, own_meets, place_cmp, stands}
use Rattle.mapdb_lists.proofs.Lists.Entries.{fewer}
use Rattle.mapdb_lists.proofs.Lists.ListedOrder.{less_from}
use Rattle.mapdb_lists.proofs.PlaceLemmas.PlaceOrder.{exact_own, place_total, same_or_above}

-- ---- of many

-- what is left of them stands behind the last that was found
above_stands : (after : Option OwnPlace) (places : List OwnPlace) (k : OwnPlace) → stands (filter (is_beyond after) places) k ≡ (is_beyond after k && stands places k)
above_stands after places k = any-filter_same (is_at (place_cmp k)) (is_beyond after) (is_beyond after k) (λ x same. ap (is_beyond after) (sym (exact_own k x same))) places

-- behind a place there are fewer than where it was found
fewer_beyond : (places : List OwnPlace) (after : Option OwnPlace) (p : OwnPlace) → stands places p ≡ true → is_beyond after p ≡ true
    → length (filter (is_beyond (Some p)) places) < length (filter (is_beyond after) places)
fewer_beyond places after p has above = fewer (is_beyond (Some p)) (is_beyond after) (chain after above) (is_at (place_cmp p)) (λ x at. here x (exact_own p x at)) places has
  where
    chain : (after : Option OwnPlace) → is_beyond after p ≡ true → (x : OwnPlace) → is_beyond (Some p) x ≡ true → is_beyond after x ≡ true
    chain None _ x later = refl
    chain (Some a) h x later = ap is_lt (place_total.trans a p x (less_from (place_cmp a p) h) (less_from (place_cmp p x) later))

    here : (x : OwnPlace) → p ≡ x → (is_beyond (Some p) x ≡ false) × (is_beyond after x ≡ true)
    here x same = (ap (λ (y : OwnPlace). is_lt (place_cmp p y)) (sym same) ∙ ap is_lt (tied_itself place_total p), ap (is_beyond after) (sym same) ∙ above)

module _ (places : List OwnPlace) (first end : ℕ) where
  -- what a sweep has ahead of it that is not over
  ahead_parts : (sweep : Sweep) → sweep.over ≡ false → (k : OwnPlace) → stands (many_ahead places sweep) k ≡ true → (is_beyond sweep.after k ≡ true) × (stands places k ≡ true)
  ahead_parts sweep on k has =
      and_parts (is_beyond sweep.after k) (stands places k)
      (sym (above_stands sweep.after places k) ∙ sym (ap (λ (b : Bool). stands (if b then [] else filter (is_beyond sweep.after) places) k) on) ∙ has)

  pub many_none : (sweep : Sweep) → sweep.over ≡ false → IsNextPlace places first end sweep.after None
      → (k : OwnPlace) → stands (many_ahead places sweep) k ≡ true → own_meets k first end ≡ false
  many_none sweep on none k has = let parts = ahead_parts sweep on k has in none k parts.1 parts.0

  pub many_found : (sweep : Sweep) → sweep.over ≡ false → (found : FoundPlace) → IsLeastNext places first end sweep.after found.place → IsLastWhereSaid places first end found
      → IsSweptTo places (many_ahead places) first end sweep (record { place = found.place; sweep = record { passed = sweep.passed; after = Some found.place; at = found.at; over = found.last } })
  many_found sweep on found next last = record {
    held = next.held;
    meeting = next.meeting;
    rest = λ k has meeting. let parts = ahead_parts sweep on k has in
        elim (same_or_above found.place k (next.least k parts.1 parts.0 meeting)) [
          | inl same ↦ inl same
          | inr less ↦ inr (still k parts.1 (ap is_lt less) meeting found.last last)
        ];
    fewer = fewer_after found.last;
  }
    where
      still : (k : OwnPlace) → stands places k ≡ true → is_beyond (Some found.place) k ≡ true → own_meets k first end ≡ true
          → (b : Bool) → (b ≡ true → IsNextPlace places first end (Some found.place) None)
          → stands (if b then [] else filter (is_beyond (Some found.place)) places) k ≡ true
      still k has above meeting true said = absurd (true≢false (sym meeting ∙ said refl k has above))
      still k has above meeting false said =
          above_stands (Some found.place) places k ∙ and_from (is_beyond (Some found.place) k) (stands places k) above has

      fewer_after : (b : Bool) → length (if b then [] else filter (is_beyond (Some found.place)) places) < length (many_ahead places sweep)
      fewer_after b =
          let less = fewer_beyond places sweep.after found.place next.held next.above in
          subst (λ (o : Bool). length (if b then [] else filter (is_beyond (Some found.place)) places) < length (if o then [] else filter (is_beyond sweep.after) places)) (sym on) (by b less)
        where
          by : (b : Bool) → length (filter (is_beyond (Some found.place)) places) < length (filter (is_beyond sweep.after) places)
              → length (if b then [] else filter (is_beyond (Some found.place)) places) < length (filter (is_beyond sweep.after) places)
          by true less = omega arith
          by false less = less

-- ---- of all

-- at the start all are ahead
all_ahead : (own : OwnPlaces) → ahead own at_start ≡ own_list own
all_ahead (One place) = refl
all_ahead (Few list) = refl
all_ahead (Many many) = all many.value.places
  where
    all : (xs : List OwnPlace) → filter (is_beyond None) xs ≡ xs
    all [] = refl
    all (x ∷ xs) = ap (λ (rest : List OwnPlace). x ∷ rest) (all xs)

pub start_length : (own : OwnPlaces) (sweep : Sweep) → sweep ≡ at_start → length (ahead own sweep) ≡ length (own_list own)
start_length own sweep is = ap (λ (s : Sweep). length (ahead own s)) is ∙ ap length (all_ahead own)

pub start_ahead : (own : OwnPlaces) (sweep : Sweep) → sweep ≡ at_start → (p : OwnPlace) → stands (own_list own) p ≡ true → stands (ahead own sweep) p ≡ true
start_ahead own sweep is p has = ap (λ (s : Sweep). stands (ahead own s) p) is ∙ ap (λ (l : List OwnPlace). stands l p) (all_ahead own) ∙ has

-- ---- of a few

-- a few places are all of the owner's
pub few_are_all : (own : OwnPlaces) (places : List OwnPlace) → Some places ≡ few_list own → places ≡ own_list own
few_are_all (One place) places is = same_Some places (place ∷ []) is
few_are_all (Few list) places is = same_Some places list.items is
few_are_all (Many many) places is = absurd (none-some places (sym is))
