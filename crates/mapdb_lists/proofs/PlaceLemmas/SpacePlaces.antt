-- Where spaces stand, and what stands there.
use Rattle.std.proofs.Common.{◌≡◌, ℕ, zero, suc, ◌<◌, List, [], ◌∷◌, ◌++◌, length, set, refl, ap, sym, ◌∙◌, Bool, true, false, cond, inl, inr, arith}
use Rattle.std.specs.Prelude.{Option, None, Some, ◌==◌, ◌⊎◌, map, slice_get, slice_index}
use Rattle.std.specs.List.{list_any}
use Rattle.std.specs.Map.{lookup}
use Rattle.std.proofs.lemmas.Bool.{and_left, cases_Bool, cond-false, cond-true, eqb-false, eqb-true}
use Rattle.std.proofs.lemmas.Map.Keys.{any_passes_from_place}
use Rattle.std.proofs.lemmas.Option.{slice_get_within}
use Rattle.mapdb_facts.specs.ByName.{value_at}
use Rattle.mapdb_facts.specs.Names.{same_space}
use Rattle.mapdb_facts.specs.declared.names.Space.{Space}
use Rattle.mapdb_facts.proofs.Lists.SameNames.{same_space_itself, same_space_true}
use Rattle.mapdb_facts.proofs.Placed as placed
use Rattle.mapdb_lists.specs.declared.space_places.SpacePlaces.{SpacePlaces}
use Rattle.mapdb_lists.specs.BySpace.{AreByPlace, AreWordsOf, at_places, known_spaces, near_place, or_place, place_if, space_place, told_place}

last : (spaces : List Space) (space : Space) → slice_get (spaces ++ space ∷ []) (length spaces) ≡ Some space
last [] space = refl
last (other ∷ spaces) space = last spaces space

earlier : (spaces : List Space) (space : Space) (at : ℕ) → at < length spaces → slice_get (spaces ++ space ∷ []) at ≡ slice_get spaces at
earlier [] space at within = absurd (omega (arith, within))
earlier (other ∷ spaces) space zero within = refl
earlier (other ∷ spaces) space (suc at) within = earlier spaces space at (omega (arith, within))

-- ---- a space that has a place is among those that are known

place_if_same : (o : Option Space) (at n : ℕ) (q : Space) → place_if o at q ≡ Some n → (other : Space) × (o ≡ Some other) × (same_space q other ≡ true)
place_if_same None at n q h = cc
place_if_same (Some other) at n q h = elim (cases_Bool (same_space other q)) [
  | inl same ↦ (other, refl, turned same)
  | inr apart ↦ let bad : None ≡ Some n = sym (cond-false (same_space other q) (Some at) None apart) ∙ h in cc
]
  where
    turned : same_space other q ≡ true → same_space q other ≡ true
    turned same = let is = same_space_true other q same in ap (λ (x : Space). same_space q x) is ∙ same_space_itself q

told_known : (spaces : List Space) (word n : ℕ) (q : Space) → told_place spaces word q ≡ Some n → list_any (same_space q) spaces ≡ true
told_known spaces zero n q h = cc
told_known spaces (suc at) n q h =
    let there = place_if_same (slice_get spaces at) at n q h in
    any_passes_from_place (same_space q) spaces at there.0 there.1 there.2

or_known : (near far : Option ℕ) (n : ℕ) → or_place near far ≡ Some n → (near ≡ Some n) ⊎ (far ≡ Some n)
or_known None far n h = inr h
or_known (Some at) far n h = inl h

known : (places : SpacePlaces) (q : Space) (n : ℕ) → space_place places q ≡ Some n → list_any (same_space q) (known_spaces places) ≡ true
known places q n h = elim (or_known (near_place places.near.items places.spaces.items q) (lookup (same_space q) places.far.entries) n h) [
  | inl near ↦ placed.any_in_front (same_space q) places.spaces.items (map (λ e. e.0) places.far.entries)
      (told_known places.spaces.items (slice_index places.near.items q.number) n q near)
  | inr far ↦ placed.any_behind (same_space q) places.spaces.items (map (λ e. e.0) places.far.entries)
      (placed.found_known same_space same_space_true same_space_itself q places.far.entries n far)
]

-- ---- what is found

pub no_spaces : {V : Type 0} (places : SpacePlaces) (values : List V) → ((space : Space) → space_place places space ≡ None) → (at_places places values).entries ≡ []
no_spaces places values none = placed.none_have _ (known_spaces places) (λ space. ap (value_at values) (none space))

pub no_space_found : {V : Type 0} (places : SpacePlaces) (values : List V) (space : Space) → space_place places space ≡ None → None ≡ lookup (same_space space) (at_places places values).entries
no_space_found places values = placed.no_place_found same_space same_space_true same_space_itself (space_place places) (known_spaces places) (known places) values

module _ {V : Type 0} (places : SpacePlaces) (values : List V) (are : AreByPlace places (length values)) where
  pub unplaced : (space : Space) → lookup (same_space space) (at_places places values).entries ≡ None → space_place places space ≡ None
  unplaced = placed.unplaced same_space same_space_true same_space_itself (space_place places) (known_spaces places) (known places) values are.each

  module _ (wider : SpacePlaces) (space : Space) (v : V) (put : (q : Space) → space_place wider q ≡ cond (same_space space q) (Some (length places.spaces.items)) (space_place places q)) where
    pub found_more : (q : Space) → lookup (same_space q) (at_places wider (values ++ v ∷ [])).entries ≡ cond (same_space space q) (Some v) (lookup (same_space q) (at_places places values).entries)
    found_more = placed.found_more same_space same_space_true same_space_itself (space_place places) (known_spaces places) (known places)
        (space_place wider) (known_spaces wider) (known wider) values are.each space v (length places.spaces.items) are.all put

    pub places_more : AreWordsOf wider.near.items wider.spaces.items → length wider.spaces.items ≡ length (values ++ v ∷ []) → AreByPlace wider (length (values ++ v ∷ []))
    places_more words all = record {
      each = placed.places_more same_space same_space_true same_space_itself (space_place places) (known_spaces places) (known places) values are.each
          (space_place wider) (known_spaces wider) (known wider) space v (length places.spaces.items) are.all put;
      words = words;
      all = all;
    }

  pub places_kept : (other : SpacePlaces) → ((q : Space) → space_place other q ≡ space_place places q) → AreWordsOf other.near.items other.spaces.items
      → length other.spaces.items ≡ length places.spaces.items → AreByPlace other (length values)
  places_kept other same words all = record {
    each = placed.one_to_one_kept (space_place places) (space_place other) (length values) same are.each;
    words = words;
    all = all ∙ are.all;
  }

  module _ (space : Space) (at : ℕ) (there : space_place places space ≡ Some at) where
    pub place_below : at < length values
    place_below = are.each.below space at there

    pub placed_value : slice_get values at ≡ lookup (same_space space) (at_places places values).entries
    placed_value = placed.placed_value same_space same_space_true same_space_itself (space_place places) (known_spaces places) (known places) values are.each space at there

    pub value_given : (v : V) (q : Space) → lookup (same_space q) (at_places places (set values at v)).entries ≡ cond (same_space space q) (Some v) (lookup (same_space q) (at_places places values).entries)
    value_given = placed.value_given same_space same_space_true same_space_itself (space_place places) (known_spaces places) (known places) values are.each space at there

-- ---- the next place is given to a space

module _ (near near' : List ℕ) (spaces : List Space) (words : AreWordsOf near spaces) (space : Space) where
  -- what a word tells of a space with its number stays, where a space came
  told_still : (q : Space) (word : ℕ) → slice_index near q.number ≡ word → told_place (spaces ++ space ∷ []) word q ≡ told_place spaces word q
  told_still q zero e = refl
  told_still q (suc at) e =
      let there = words q.number at e in
      ap (λ o. place_if o at q) (earlier spaces space at (slice_get_within spaces at there.0 there.1))

  -- a word tells nothing of a space with another number
  told_of_others : (number : ℕ) (q : Space) (word : ℕ) → slice_index near number ≡ word → (number ≡ q.number → ⊥) → told_place spaces word q ≡ None
  told_of_others number q zero e apart = refl
  told_of_others number q (suc at) e apart =
      let there = words number at e in
      ap (λ o. place_if o at q) there.1 ∙ cond-false (same_space there.0 q) (Some at) None (other_space there.0 there.2)
    where
      other_space : (k : Space) → k.number ≡ number → same_space k q ≡ false
      other_space k is = elim (cases_Bool (same_space k q)) [
        | inl same ↦ absurd (apart (sym is ∙ ap (λ (x : Space). x.number) (same_space_true k q same)))
        | inr other ↦ other
      ]

  module _ (far far' : Space → Option ℕ) where
    -- it is near, and the one that was near with that number is far
    pub put_near : ((n : ℕ) → slice_index near' n ≡ cond (space.number == n) (suc (length spaces)) (slice_index near n))
        → ((q : Space) → far' q ≡ or_place (told_place spaces (slice_index near space.number) q) (far q))
        → (q : Space) → or_place (told_place (spaces ++ space ∷ []) (slice_index near' q.number) q) (far' q)
        ≡ cond (same_space space q) (Some (length spaces)) (or_place (told_place spaces (slice_index near q.number) q) (far q))
    put_near written moved q = elim (cases_Bool (space.number == q.number)) [
      | inl same ↦
          let number : space.number ≡ q.number = eqb-true _ _ same in
          ap (λ w. or_place (told_place (spaces ++ space ∷ []) w q) (far' q)) (written q.number ∙ cond-true (space.number == q.number) (suc (length spaces)) (slice_index near q.number) same)
          ∙ ap (λ o. or_place (place_if o (length spaces) q) (far' q)) (last spaces space)
          ∙ here (same_space space q)
          ∙ ap (cond (same_space space q) (Some (length spaces))) (moved q ∙ ap (λ n. or_place (told_place spaces (slice_index near n) q) (far q)) number)
      | inr other ↦
          let apart : same_space space q ≡ false = and_left (space.number == q.number) (space.version == q.version) other in
          ap (λ w. or_place (told_place (spaces ++ space ∷ []) w q) (far' q)) (written q.number ∙ cond-false (space.number == q.number) (suc (length spaces)) (slice_index near q.number) other)
          ∙ ap (λ o. or_place o (far' q)) (told_still q (slice_index near q.number) refl)
          ∙ ap (or_place (told_place spaces (slice_index near q.number) q))
          (moved q ∙ ap (λ o. or_place o (far q)) (told_of_others space.number q (slice_index near space.number) refl (eqb-false _ _ other)))
          ∙ sym (cond-false (same_space space q) (Some (length spaces)) (or_place (told_place spaces (slice_index near q.number) q) (far q)) apart)
    ]
      where
        here : (b : Bool) → or_place (cond b (Some (length spaces)) None) (far' q) ≡ cond b (Some (length spaces)) (far' q)
        here true = refl
        here false = refl

    -- it is far
    pub put_far : ((n : ℕ) → slice_index near' n ≡ slice_index near n) → or_place (told_place spaces (slice_index near space.number) space) (far space) ≡ None
        → ((q : Space) → far' q ≡ cond (same_space space q) (Some (length spaces)) (far q))
        → (q : Space) → or_place (told_place (spaces ++ space ∷ []) (slice_index near' q.number) q) (far' q)
        ≡ cond (same_space space q) (Some (length spaces)) (or_place (told_place spaces (slice_index near q.number) q) (far q))
    put_far same none more q =
        ap (λ w. or_place (told_place (spaces ++ space ∷ []) w q) (far' q)) (same q.number)
        ∙ ap (λ o. or_place o (far' q)) (told_still q (slice_index near q.number) refl)
        ∙ ap (or_place (told_place spaces (slice_index near q.number) q)) (more q)
        ∙ elim (cases_Bool (same_space space q)) [
          | inl here ↦
              let is = same_space_true space q here in
              let nowhere : told_place spaces (slice_index near q.number) q ≡ None =
              ap (λ (x : Space). told_place spaces (slice_index near x.number) x) (sym is) ∙ first_none (told_place spaces (slice_index near space.number) space) (far space) none in
              ap (λ o. or_place o (cond (same_space space q) (Some (length spaces)) (far q))) nowhere
              ∙ cond-true (same_space space q) (Some (length spaces)) (far q) here
              ∙ sym (cond-true (same_space space q) (Some (length spaces)) (or_place (told_place spaces (slice_index near q.number) q) (far q)) here)
          | inr other ↦
              ap (or_place (told_place spaces (slice_index near q.number) q)) (cond-false (same_space space q) (Some (length spaces)) (far q) other)
              ∙ sym (cond-false (same_space space q) (Some (length spaces)) (or_place (told_place spaces (slice_index near q.number) q) (far q)) other)
        ]
      where
        first_none : (a b : Option ℕ) → or_place a b ≡ None → a ≡ None
        first_none None b e = refl
        first_none (Some at) b e = cc

  pub words_near : ((n : ℕ) → slice_index near' n ≡ cond (space.number == n) (suc (length spaces)) (slice_index near n)) → AreWordsOf near' (spaces ++ space ∷ [])
  words_near written number at e = elim (cases_Bool (space.number == number)) [
    | inl same ↦
        let end : suc (length spaces) ≡ suc at = sym (written number ∙ cond-true (space.number == number) (suc (length spaces)) (slice_index near number) same) ∙ e in
        let here : length spaces ≡ at = omega (arith, end) in
        (space, ap (slice_get (spaces ++ space ∷ [])) (sym here) ∙ last spaces space, eqb-true _ _ same)
    | inr other ↦
        let there = words number at (sym (written number ∙ cond-false (space.number == number) (suc (length spaces)) (slice_index near number) other) ∙ e) in
        (there.0, earlier spaces space at (slice_get_within spaces at there.0 there.1) ∙ there.1, there.2)
  ]

  pub words_far : ((n : ℕ) → slice_index near' n ≡ slice_index near n) → AreWordsOf near' (spaces ++ space ∷ [])
  words_far same number at e =
      let there = words number at (sym (same number) ∙ e) in
      (there.0, earlier spaces space at (slice_get_within spaces at there.0 there.1) ∙ there.1, there.2)

  pub words_kept : ((n : ℕ) → slice_index near' n ≡ slice_index near n) → AreWordsOf near' spaces
  words_kept same number at e = words number at (sym (same number) ∙ e)
