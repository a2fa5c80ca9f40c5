-- What is found by a record's name among values that stand at places, with no list of the names.
use Rattle.std.proofs.Common.{◌≡◌, ℕ, zero, suc, ◌<◌, ◌+◌, ◌-◌, List, [], ◌∷◌, ◌++◌, length, set, ap, subst, sym, ◌∙◌, refl, true, cond, inl, inr, arith}
use Rattle.std.specs.Prelude.{None, Some, ◌==◌, map, slice_get, slice_index}
use Rattle.std.specs.BTreeMap.{is_at}
use Rattle.std.specs.Global.{Vec}
use Rattle.std.specs.List.{list_any}
use Rattle.std.specs.Map.{lookup}
use Rattle.std.proofs.lemmas.Bool.{and_from, cases_Bool, cond-true, eq-eqb, eqb-false, or_left, or_right}
use Rattle.mapdb_facts.specs.ByName.{ArePlacesBelow, by_places, known_names, near_names, value_at, value_in, worded}
use Rattle.mapdb_facts.specs.Kept.{id_cmp}
use Rattle.mapdb_facts.specs.NamePlaces.{HaveFewLists, near_word, place_in, words_in}
use Rattle.mapdb_facts.specs.Names.{same_id}
use Rattle.mapdb_facts.specs.declared.name_places.NamePlaces.{NamePlaces}
use Rattle.mapdb_facts.specs.declared.names.RecordId.{RecordId}
use Rattle.mapdb_facts.proofs.Lists.SameNames.{same_id_itself, same_id_true}
use Rattle.mapdb_facts.proofs.NameLemmas.NamesInOrder.{one_lookup}
use Rattle.mapdb_facts.proofs.Placed as placed

-- ---- a name that has a place is among those that are known

module _ (q : RecordId) where
  worded_among : (number k : ℕ) (words : List ℕ) → q.number ≡ number + k → (slice_index words k ≡ 0 → ⊥) → list_any (same_id q) (worded q.processor number words) ≡ true
  worded_among number k [] e some = absurd (some refl)
  worded_among number zero (word ∷ words) e some =
      or_left _ (list_any (same_id q) (worded q.processor (suc number) words))
      (and_from (q.number == number) (q.processor == q.processor) (eq-eqb q.number number (omega (arith, e))) (eq-eqb q.processor q.processor refl))
  worded_among number (suc k) (word ∷ words) e some =
      or_right _ (list_any (same_id q) (worded q.processor (suc number) words)) (worded_among (suc number) k words (omega (arith, e)) some)

  near_among : (processor k : ℕ) (near : List (Vec ℕ)) → q.processor ≡ processor + k → (slice_index (words_in (slice_get near k)) q.number ≡ 0 → ⊥) → list_any (same_id q) (near_names processor near) ≡ true
  near_among processor k [] e some = absurd (some refl)
  near_among processor zero (words ∷ near) e some =
      placed.any_in_front (same_id q) (worded processor 0 words.items) (near_names (suc processor) near)
      (subst (λ p. list_any (same_id q) (worded p 0 words.items) ≡ true) (omega (arith, e)) (worded_among 0 q.number words.items (omega arith) some))
  near_among processor (suc k) (words ∷ near) e some =
      placed.any_behind (same_id q) (worded processor 0 words.items) (near_names (suc processor) near) (near_among (suc processor) k near (omega (arith, e)) some)

known : (places : NamePlaces) (q : RecordId) (at : ℕ) → place_in places q ≡ Some at → list_any (same_id q) (known_names places) ≡ true
known places q at h = elim (cases_Bool (near_word places.near.items q == 0)) [
  | inl none ↦ placed.any_behind (same_id q) (near_names 0 places.near.items) (map (λ e. e.0) places.far.entries)
      (placed.found_known same_id same_id_true same_id_itself q places.far.entries at
      (sym (cond-true (near_word places.near.items q == 0) (lookup (is_at (id_cmp q)) places.far.entries) (Some (near_word places.near.items q - 1)) none ∙ one_lookup places.far.entries q) ∙ h))
  | inr some ↦ placed.any_in_front (same_id q) (near_names 0 places.near.items) (map (λ e. e.0) places.far.entries)
      (near_among q 0 q.processor places.near.items (omega arith) (eqb-false (near_word places.near.items q) 0 some))
]

-- ---- what is found

pub nothing_placed : {V : Type 0} (places : NamePlaces) (values : List V) → ((id : RecordId) → place_in places id ≡ None) → (by_places places values).entries ≡ []
nothing_placed places values none = placed.none_have (value_in places values) (known_names places) (λ id. ap (value_at values) (none id))

pub no_place_found : {V : Type 0} (places : NamePlaces) (values : List V) (id : RecordId) → place_in places id ≡ None → None ≡ lookup (same_id id) (by_places places values).entries
no_place_found places values = placed.no_place_found same_id same_id_true same_id_itself (place_in places) (known_names places) (known places) values

module _ {V : Type 0} (places : NamePlaces) (values : List V) (are : ArePlacesBelow places (length values)) where
  pub unplaced : (id : RecordId) → lookup (same_id id) (by_places places values).entries ≡ None → place_in places id ≡ None
  unplaced = placed.unplaced same_id same_id_true same_id_itself (place_in places) (known_names places) (known places) values are.each

  -- the last place is given to a name
  module _ (wider : NamePlaces) (id : RecordId) (v : V) (at : ℕ) (end : at ≡ length values)
      (put : (q : RecordId) → place_in wider q ≡ cond (same_id id q) (Some at) (place_in places q)) where
    pub found_more : (q : RecordId) → lookup (same_id q) (by_places wider (values ++ v ∷ [])).entries ≡ cond (same_id id q) (Some v) (lookup (same_id q) (by_places places values).entries)
    found_more = placed.found_more same_id same_id_true same_id_itself (place_in places) (known_names places) (known places)
        (place_in wider) (known_names wider) (known wider) values are.each id v at end put

    pub places_more : (HaveFewLists places.near.items → HaveFewLists wider.near.items) → ArePlacesBelow wider (length (values ++ v ∷ []))
    places_more few = record {
      each = placed.places_more same_id same_id_true same_id_itself (place_in places) (known_names places) (known places) values are.each
          (place_in wider) (known_names wider) (known wider) id v at end put;
      few = few are.few;
    }

  -- no name's place has changed
  pub places_kept : (other : NamePlaces) → ((q : RecordId) → place_in other q ≡ place_in places q) → (HaveFewLists places.near.items → HaveFewLists other.near.items)
      → ArePlacesBelow other (length values)
  places_kept other same few = record {
    each = placed.one_to_one_kept (place_in places) (place_in other) (length values) same are.each;
    few = few are.few;
  }

  pub found_kept : (other : NamePlaces) → ((q : RecordId) → place_in other q ≡ place_in places q)
      → (q : RecordId) → lookup (same_id q) (by_places other values).entries ≡ lookup (same_id q) (by_places places values).entries
  found_kept other = placed.found_kept same_id same_id_true same_id_itself (place_in places) (known_names places) (known places)
      (place_in other) (known_names other) (known other) values

  -- another value stands at the place of a name
  module _ (id : RecordId) (at : ℕ) (there : place_in places id ≡ Some at) where
    pub place_below : at < length values
    place_below = are.each.below id at there

    pub placed_value : slice_get values at ≡ lookup (same_id id) (by_places places values).entries
    placed_value = placed.placed_value same_id same_id_true same_id_itself (place_in places) (known_names places) (known places) values are.each id at there

    pub value_given : (v : V) (q : RecordId) → lookup (same_id q) (by_places places (set values at v)).entries ≡ cond (same_id id q) (Some v) (lookup (same_id q) (by_places places values).entries)
    value_given = placed.value_given same_id same_id_true same_id_itself (place_in places) (known_names places) (known places) values are.each id at there
