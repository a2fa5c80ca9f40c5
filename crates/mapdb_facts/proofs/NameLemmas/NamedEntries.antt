-- What is found by a name among values beside their names.
use Rattle.std.proofs.Common.{◌≡◌, ℕ, suc, ◌<◌, List, [], ◌∷◌, ◌++◌, length, set, refl, ap, sym, ◌∙◌, Bool, true, false, cond, inl, inr, arith}
use Rattle.std.specs.Prelude.{Option, None, Some, IfSome, IsSome, map, option_map, slice_get}
use Rattle.std.specs.BTreeMap.Range.{IsLeBy}
use Rattle.std.specs.Option.{is_some}
use Rattle.std.specs.List.{zip}
use Rattle.std.specs.Map.{lookup}
use Rattle.std.proofs.lemmas.Bool.{cases_Bool, cond-false, cond-true, false_from_ne_true, false≢true}
use Rattle.mapdb_join.specs.Keys.{IsAbove}
use Rattle.mapdb_facts.specs.Kept.{id_cmp}
use Rattle.mapdb_facts.specs.Names.{same_id}
use Rattle.mapdb_facts.specs.declared.names.RecordId.{RecordId}
use Rattle.mapdb_facts.proofs.Lists.SameNames.{same_id_at, same_id_true}
use Rattle.mapdb_facts.specs.NamedValues.{place_of}

some_suc : (o : Option ℕ) (at : ℕ) → option_map suc o ≡ Some at → (n : ℕ) × (o ≡ Some n) × (at ≡ suc n)
some_suc None at e = cc
some_suc (Some n) at e = (n, refl, cc)

not_here : ◌≡◌ {A = Option ℕ} (Some 0) None → ⊥
not_here e = cc

some_is_not_none : {V : Type 0} (value : V) → Some value ≡ None → ⊥
some_is_not_none value e = cc

none_suc : (o : Option ℕ) → option_map suc o ≡ None → o ≡ None
none_suc None e = refl
none_suc (Some n) e = cc

-- a name that has a place stands there
pub place_within : (names : List RecordId) (id : RecordId) (at : ℕ) → place_of id names ≡ Some at → at < length names
place_within [] id at e = cc
place_within (name ∷ names) id at e = elim (cases_Bool (same_id id name)) [
  | inl same ↦ let here : Some 0 ≡ Some at = sym (cond-true (same_id id name) (Some 0) (option_map suc (place_of id names)) same) ∙ e in
      let zero_at : 0 ≡ at = cc in omega arith
  | inr other ↦
      let found = some_suc (place_of id names) at (sym (cond-false (same_id id name) (Some 0) (option_map suc (place_of id names)) other) ∙ e) in
      let behind = place_within names id found.0 found.1 in omega (arith, found.2)
]

-- the value at its place is what is found by it, and by a name that has no place nothing is found
pub found_at : {V : Type 0} (names : List RecordId) (values : List V) (id : RecordId) (at : ℕ) → place_of id names ≡ Some at → at < length values
    → slice_get values at ≡ lookup (same_id id) (zip names values)
found_at [] values id at e within = cc
found_at (name ∷ names) [] id at e within = absurd (omega (arith, within))
found_at (name ∷ names) (value ∷ values) id at e within = elim (cases_Bool (same_id id name)) [
  | inl same ↦
      let here : Some 0 ≡ Some at = sym (cond-true (same_id id name) (Some 0) (option_map suc (place_of id names)) same) ∙ e in
      let zero_at : 0 ≡ at = cc in
      ap (slice_get (value ∷ values)) (sym zero_at) ∙ sym (cond-true (same_id id name) (Some value) (lookup (same_id id) (zip names values)) same)
  | inr other ↦
      let found = some_suc (place_of id names) at (sym (cond-false (same_id id name) (Some 0) (option_map suc (place_of id names)) other) ∙ e) in
      ap (slice_get (value ∷ values)) found.2 ∙ found_at names values id found.0 found.1 (omega (arith, within, found.2))
      ∙ sym (cond-false (same_id id name) (Some value) (lookup (same_id id) (zip names values)) other)
]

pub found_nowhere : {V : Type 0} (names : List RecordId) (values : List V) (id : RecordId) → place_of id names ≡ None → None ≡ lookup (same_id id) (zip names values)
found_nowhere [] values id e = refl
found_nowhere (name ∷ names) [] id e = refl
found_nowhere (name ∷ names) (value ∷ values) id e = elim (cases_Bool (same_id id name)) [
  | inl same ↦ absurd (not_here (sym (cond-true (same_id id name) (Some 0) (option_map suc (place_of id names)) same) ∙ e))
  | inr other ↦
      found_nowhere names values id (none_suc (place_of id names) (sym (cond-false (same_id id name) (Some 0) (option_map suc (place_of id names)) other) ∙ e))
      ∙ sym (cond-false (same_id id name) (Some value) (lookup (same_id id) (zip names values)) other)
]

pub placed_nowhere : {V : Type 0} (names : List RecordId) (values : List V) (id : RecordId) → length names ≡ length values → lookup (same_id id) (zip names values) ≡ None → place_of id names ≡ None
placed_nowhere [] values id even e = refl
placed_nowhere (name ∷ names) [] id even e = absurd (omega (arith, even))
placed_nowhere {V} (name ∷ names) (value ∷ values) id even e = elim (cases_Bool (same_id id name)) [
  | inl same ↦ absurd (some_is_not_none value (sym (cond-true (same_id id name) (Some value) (lookup (same_id id) (zip names values)) same) ∙ e))
  | inr other ↦
      cond-false (same_id id name) (Some 0) (option_map suc (place_of id names)) other
      ∙ ap (option_map suc) (placed_nowhere names values id (omega (arith, even)) (sym (cond-false (same_id id name) (Some value) (lookup (same_id id) (zip names values)) other) ∙ e))
]

-- ---- a name more

pub turned : (a b : RecordId) → same_id a b ≡ same_id b a
turned a b = elim (cases_Bool (same_id a b)) [
  | inl same ↦ same ∙ sym (same_id_at b a (sym (same_id_true a b same)))
  | inr other ↦ other ∙ sym (false_from_ne_true (same_id b a) (λ same. false≢true (sym other ∙ same_id_at a b (sym (same_id_true b a same)))))
]

-- two tests that are not true at once may be asked in either order
either_first : {A : Type 0} (a b : Bool) (x y z : A) → (a ≡ true → b ≡ true → ⊥) → cond a x (cond b y z) ≡ cond b y (cond a x z)
either_first true true x y z apart = absurd (apart refl refl)
either_first true false x y z apart = refl
either_first false b x y z apart = refl

-- of two names that are two, no third name is both
not_both : (a b q : RecordId) → same_id a b ≡ false → same_id q b ≡ true → same_id a q ≡ true → ⊥
not_both a b q other one two = false≢true (sym other ∙ same_id_at a b (same_id_true a q two ∙ same_id_true q b one))

mapped : (b : Bool) (at : ℕ) (o : Option ℕ) → option_map suc (cond b (Some at) o) ≡ cond b (Some (suc at)) (option_map suc o)
mapped true at o = refl
mapped false at o = refl

other_name : (names : List RecordId) (id name : RecordId) → place_of id (name ∷ names) ≡ None → same_id id name ≡ false
other_name names id name e = false_from_ne_true (same_id id name) (λ same.
    let here : Some 0 ≡ None = sym (cond-true (same_id id name) (Some 0) (option_map suc (place_of id names)) same) ∙ e in cc)

none_behind : (names : List RecordId) (id name : RecordId) → place_of id (name ∷ names) ≡ None → place_of id names ≡ None
none_behind names id name e = none_suc (place_of id names)
    (sym (cond-false (same_id id name) (Some 0) (option_map suc (place_of id names)) (other_name names id name e)) ∙ e)

-- where it stands
pub place_added : (names : List RecordId) (id q : RecordId) → place_of id names ≡ None
    → place_of q (names ++ id ∷ []) ≡ cond (same_id id q) (Some (length names)) (place_of q names)
place_added [] id q e = ap (λ b. cond b (Some 0) None) (turned q id)
place_added (name ∷ names) id q e =
    ap (λ o. cond (same_id q name) (Some 0) (option_map suc o)) (place_added names id q (none_behind names id name e))
    ∙ ap (λ o. cond (same_id q name) (Some 0) o) (mapped (same_id id q) (length names) (place_of q names))
    ∙ either_first (same_id q name) (same_id id q) (Some 0) (Some (suc (length names))) (option_map suc (place_of q names)) (not_both id name q (other_name names id name e))

-- what is found
pub given_added : {V : Type 0} (names : List RecordId) (values : List V) (id : RecordId) (value : V) → place_of id names ≡ None → length names ≡ length values
    → (q : RecordId) → lookup (same_id q) (zip (names ++ id ∷ []) (values ++ value ∷ [])) ≡ cond (same_id id q) (Some value) (lookup (same_id q) (zip names values))
given_added [] [] id value e same q = ap (λ b. cond b (Some value) None) (turned q id)
given_added [] (other ∷ values) id value e same q = absurd (omega (arith, same))
given_added (name ∷ names) [] id value e same q = absurd (omega (arith, same))
given_added (name ∷ names) (other ∷ values) id value e same q =
    ap (λ o. cond (same_id q name) (Some other) o) (given_added names values id value (none_behind names id name e) (omega (arith, same)) q)
    ∙ either_first (same_id q name) (same_id id q) (Some other) (Some value) (lookup (same_id q) (zip names values)) (not_both id name q (other_name names id name e))

-- ---- the value of a name in place of another

twice : {A : Type 0} (b : Bool) (x y z : A) → cond b x z ≡ cond b x (cond b y z)
twice true x y z = refl
twice false x y z = refl

pub given_at : {V : Type 0} (names : List RecordId) (values : List V) (id : RecordId) (at : ℕ) (value : V) → place_of id names ≡ Some at → at < length values
    → (q : RecordId) → lookup (same_id q) (zip names (set values at value)) ≡ cond (same_id id q) (Some value) (lookup (same_id q) (zip names values))
given_at [] values id at value e within q = cc
given_at (name ∷ names) [] id at value e within q = absurd (omega (arith, within))
given_at (name ∷ names) (other ∷ values) id at value e within q = elim (cases_Bool (same_id id name)) [
  | inl same ↦
      let here : Some 0 ≡ Some at = sym (cond-true (same_id id name) (Some 0) (option_map suc (place_of id names)) same) ∙ e in
      let zero_at : 0 ≡ at = cc in
      let tests : same_id q name ≡ same_id id q = ap (same_id q) (sym (same_id_true id name same)) ∙ turned q id in
      ap (λ n. lookup (same_id q) (zip (name ∷ names) (set (other ∷ values) n value))) (sym zero_at)
      ∙ ap (λ b. cond b (Some value) (lookup (same_id q) (zip names values))) tests
      ∙ twice (same_id id q) (Some value) (Some other) (lookup (same_id q) (zip names values))
      ∙ ap (λ b. cond (same_id id q) (Some value) (cond b (Some other) (lookup (same_id q) (zip names values)))) (sym tests)
  | inr apart ↦
      let found = some_suc (place_of id names) at (sym (cond-false (same_id id name) (Some 0) (option_map suc (place_of id names)) apart) ∙ e) in
      ap (λ n. lookup (same_id q) (zip (name ∷ names) (set (other ∷ values) n value))) found.2
      ∙ ap (λ o. cond (same_id q name) (Some other) o) (given_at names values id found.0 value found.1 (omega (arith, within, found.2)) q)
      ∙ either_first (same_id q name) (same_id id q) (Some other) (Some value) (lookup (same_id q) (zip names values)) (not_both id name q apart)
]

-- ---- the names

pub names_zip : {V : Type 0} (names : List RecordId) (values : List V) → length names ≡ length values → map (λ e. e.0) (zip names values) ≡ names
names_zip [] values same = refl
names_zip (name ∷ names) [] same = absurd (omega (arith, same))
names_zip (name ∷ names) (value ∷ values) same = ap (λ behind. name ∷ behind) (names_zip names values (omega (arith, same)))

-- ---- the names that have values, in their order

some_behind : (o : Option ℕ) → is_some (option_map suc o) ≡ is_some o
some_behind None = refl
some_behind (Some n) = refl

some_either : {V : Type 0} (b : Bool) (value : V) (o : Option ℕ) (p : Option V) → is_some o ≡ is_some p → is_some (cond b (Some 0) (option_map suc o)) ≡ is_some (cond b (Some value) p)
some_either true value o p e = refl
some_either false value o p e = some_behind o ∙ e

-- a name has a place where it has a value
pub placed_valued : {V : Type 0} (names : List RecordId) (values : List V) (id : RecordId) → length names ≡ length values
    → is_some (place_of id names) ≡ is_some (lookup (same_id id) (zip names values))
placed_valued [] values id even = refl
placed_valued (name ∷ names) [] id even = absurd (omega (arith, even))
placed_valued (name ∷ names) (value ∷ values) id even =
    some_either (same_id id name) value (place_of id names) (lookup (same_id id) (zip names values)) (placed_valued names values id (omega (arith, even)))

module _ {V : Type 0} (names : List RecordId) (values : List V) (even : length names ≡ length values) (after : Option RecordId) where
  pub next_found : (r : Option RecordId) → IfSome r (λ id. IsAbove id_cmp after id × IsSome (place_of id names))
      → IfSome r (λ id. IsAbove id_cmp after id × IsSome (lookup (same_id id) (zip names values)))
  next_found None found = tt
  next_found (Some id) found = (found.0, sym (placed_valued names values id even) ∙ found.1)

  pub next_least : (r : Option RecordId) → IfSome r (λ id. (q : RecordId) → IsAbove id_cmp after q → IsSome (place_of q names) → IsLeBy id_cmp id q)
      → IfSome r (λ id. (q : RecordId) → IsAbove id_cmp after q → IsSome (lookup (same_id q) (zip names values)) → IsLeBy id_cmp id q)
  next_least None least = tt
  next_least (Some id) least = λ q above held. least q above (placed_valued names values q even ∙ held)
