-- How many entries come behind one, and the entries of a record.
use Rattle.std.proofs.Common.{◌≡◌, ℕ, ◌+◌, ◌<◌, ◌≤◌, Bool, true, false, cond, List, [], ◌∷◌, length, map, refl, sym, ap, ◌∙◌, arith, inl, inr}
use Rattle.std.specs.Prelude.{◌||◌, filter, Option, Some, None, if◌then◌else◌}
use Rattle.std.specs.BTreeMap.{is_at}
use Rattle.std.specs.List.{count_by, list_any}
use Rattle.std.specs.Map.{lookup}
use Rattle.std.specs.Ordering.{is_lt}
use Rattle.std.proofs.lemmas.Bool.{cases_Bool, false≢true, true≢false}
use Rattle.std.proofs.lemmas.Cmp.{tied_itself}
use Rattle.std.proofs.lemmas.List.{length-append, length-map}
use Rattle.std.proofs.lemmas.List.Sums.{length-filter}
use Rattle.mapdb_lists.specs.declared.own_places.OwnPlaces.{OwnPlaces}
use Rattle.mapdb_lists.specs.declared.places.Listed.{Listed}
use Rattle.mapdb_lists.specs.declared.places.Owner.{Owner}
use Rattle.mapdb_lists.specs.Listing.{AllAligned, all_listed, entries_among, is_above, is_listed, left_above, listed_cmp, listed_for, places_among, places_in, same_owner}
use Rattle.mapdb_lists.specs.OwnPlaces.{own_list}
use Rattle.mapdb_lists.proofs.Lists.ListedOrder.{exact_listed, less_from, listed_total}
use Rattle.mapdb_lists.specs.declared.places.Places.{Places}
use Rattle.mapdb_lists.proofs.PlaceLemmas.OwnersPlaces.{among_all}

-- a narrower test passes no more, and fewer where one is left out
module _ {X : Type 0} (p q : X → Bool) (narrower : (x : X) → p x ≡ true → q x ≡ true) where
  no_more : (xs : List X) → length (filter p xs) ≤ length (filter q xs)
  no_more [] = omega arith
  no_more (x ∷ xs) = by (p x) (q x) (narrower x) (no_more xs)
    where
      by : (a b : Bool) → (a ≡ true → b ≡ true) → length (filter p xs) ≤ length (filter q xs)
          → length (if a then x ∷ filter p xs else filter p xs) ≤ length (if b then x ∷ filter q xs else filter q xs)
      by true true h rest = omega arith
      by true false h rest = absurd (false≢true (h refl))
      by false true h rest = omega arith
      by false false h rest = omega arith

  pub fewer : (t : X → Bool) → ((x : X) → t x ≡ true → (p x ≡ false) × (q x ≡ true)) → (xs : List X) → list_any t xs ≡ true → length (filter p xs) < length (filter q xs)
  fewer t out [] h = absurd (false≢true h)
  fewer t out (x ∷ xs) h =
      elim (cases_Bool (t x)) [
        | inl here ↦ let one = out x here in first (p x) (q x) one.0 one.1 (no_more xs)
        | inr elsewhere ↦ later (p x) (q x) (narrower x) (fewer t out xs (sym (ap (λ (b : Bool). b || list_any t xs) elsewhere) ∙ h))
      ]
    where
      first : (a b : Bool) → a ≡ false → b ≡ true → length (filter p xs) ≤ length (filter q xs)
          → length (if a then x ∷ filter p xs else filter p xs) < length (if b then x ∷ filter q xs else filter q xs)
      first false true _ _ rest = omega arith
      first true b e _ rest = absurd (false≢true (sym e))
      first false false _ e rest = absurd (false≢true e)

      later : (a b : Bool) → (a ≡ true → b ≡ true) → length (filter p xs) < length (filter q xs)
          → length (if a then x ∷ filter p xs else filter p xs) < length (if b then x ∷ filter q xs else filter q xs)
      later true true h rest = omega arith
      later true false h rest = absurd (false≢true (h refl))
      later false true h rest = omega arith
      later false false h rest = omega arith

  pub counts_fewer : (t : X → Bool) → ((x : X) → t x ≡ true → (p x ≡ false) × (q x ≡ true)) → (xs : List X) → list_any t xs ≡ true → count_by p xs < count_by q xs
  counts_fewer t out xs h = let a = length-filter p xs in let b = length-filter q xs in let less = fewer t out xs h in omega arith

-- behind an entry there are fewer than where it was found
pub fewer_above : (set : Places) (after : Option Listed) (e : Listed) → is_listed set e ≡ true → is_above after e ≡ true → left_above set (Some e) < left_above set after
fewer_above set after e has above = counts_fewer (is_above (Some e)) (is_above after) (chain after above) (is_at (listed_cmp e)) (λ x at. here x (exact_listed e x at)) (all_listed set) (among_all set.own.entries e has)
  where
    chain : (after : Option Listed) → is_above after e ≡ true → (x : Listed) → is_above (Some e) x ≡ true → is_above after x ≡ true
    chain None _ x later = refl
    chain (Some a) h x later = ap is_lt (listed_total.trans a e x (less_from (listed_cmp a e) h) (less_from (listed_cmp e x) later))

    here : (x : Listed) → e ≡ x → (is_above (Some e) x ≡ false) × (is_above after x ≡ true)
    here x same = (ap (λ (y : Listed). is_lt (listed_cmp e y)) (sym same) ∙ ap is_lt (tied_itself listed_total e), ap (is_above after) (sym same) ∙ above)

-- where nothing is listed, all is aligned
pub none_aligned : (set : Places) → ((e : Listed) → is_listed set e ≡ false) → AllAligned set
none_aligned set none e has = absurd (true≢false (sym has ∙ none e))

-- what one owner has is no more than all that is listed
pub own_length : (owners : List (Owner × OwnPlaces)) (owner : Owner) → length (places_among owners owner) ≤ length (entries_among owners)
own_length [] owner = omega arith
own_length (o ∷ owners) owner = by (same_owner owner o.0) (own_length owners owner)
  where
    both : length (entries_among (o ∷ owners)) ≡ length (own_list o.1) + length (entries_among owners)
    both = length-append (map (listed_for o.0) (own_list o.1)) (entries_among owners) ∙ ap (λ (n : ℕ). n + length (entries_among owners)) (length-map (own_list o.1) (listed_for o.0))

    by : (b : Bool) → length (places_among owners owner) ≤ length (entries_among owners)
        → length (places_in (cond b (Some o.1) (lookup (same_owner owner) owners))) ≤ length (entries_among (o ∷ owners))
    by true rest = omega (arith, both)
    by false rest = omega (arith, both)
