-- What is taken, by names in the order in which they came.
use Rattle.std.specs.Prelude.{◌≡◌, ◌↔◌, ◌⊎◌, ◌<◌, ◌≤◌, ◌+◌, ℕ, suc, true, cond, List, [], ◌∷◌, length, Some, None, Result, Ok, Err, is_ok, IfErr, OnOk, OnErr, slice_get}
use Rattle.std.proofs.Common.{set, sym, ◌∙◌, ap, subst, inl, inr, arith}
use Rattle.std.specs.BTreeMap.{is_at}
use Rattle.std.specs.Cmp.{both_ways}
use Rattle.std.specs.List.{zip}
use Rattle.std.specs.Map.{lookup}
use Rattle.std.proofs.lemmas.Bool.{cases_Bool, cases_eq, cond-false, or_cases, or_left, or_right, true≢false}
use Rattle.std.proofs.lemmas.Option.{slice_get_within}
use Rattle.mapdb_join.specs.Atoms.{HasNone, Includes, IsBetween, IsSame, IsUnion}
use Rattle.mapdb_join.specs.Entries.{IsChangedAt, some_has}
use Rattle.mapdb_join.specs.Runs.{has_at}
use Rattle.mapdb_join.specs.declared.runs.starts.Start.{Start}
use Rattle.mapdb_join.proofs.Changes.{between_at, union_at, union_new}
use Rattle.mapdb_join.proofs.Walking.{entry_has, entry_in}
use Rattle.mapdb_facts.specs.CutCovers.{CoversUnder}
use Rattle.mapdb_facts.specs.Kept.{Cuts, has_cut, id_cmp}
use Rattle.mapdb_facts.specs.NamedValues.{place_of}
use Rattle.mapdb_facts.specs.Names.{same_id}
use Rattle.mapdb_facts.specs.declared.names.RecordId.{RecordId}
use Rattle.mapdb_facts.proofs.Lists.Comparing.{exact_ids}
use Rattle.mapdb_facts.proofs.Lists.SameNames.{same_id_true}
use Rattle.mapdb_facts.proofs.NameLemmas.NamedEntries.{found_at, given_at}
use Rattle.mapdb_facts.proofs.NameLemmas.NamesInOrder.{changed_from, id_total, one_lookup}

-- ---- whether one takes what the other takes, under one name

pub under_both : (cuts other : Cuts) (id : RecordId) (mine theirs : List Start) → lookup (is_at (id_cmp id)) cuts ≡ Some mine
    → lookup (is_at (id_cmp id)) other ≡ Some theirs → Includes has_at mine theirs ↔ CoversUnder cuts other id
under_both cuts other id mine theirs one two = (
  λ all x h. ap (λ o. some_has has_at o x) one ∙ all x (sym (ap (λ o. some_has has_at o x) two) ∙ h),
  λ all x h. sym (ap (λ o. some_has has_at o x) one) ∙ all x (ap (λ o. some_has has_at o x) two ∙ h),
)

pub under_theirs : (cuts other : Cuts) (id : RecordId) (theirs : List Start) → lookup (is_at (id_cmp id)) cuts ≡ None
    → lookup (is_at (id_cmp id)) other ≡ Some theirs → HasNone has_at theirs ↔ CoversUnder cuts other id
under_theirs cuts other id theirs one two = (
  λ none x h. absurd (true≢false (sym (sym (ap (λ o. some_has has_at o x) two) ∙ h) ∙ none x)),
  λ all x. elim (cases_Bool (has_at theirs x)) [
    | inl has ↦ absurd (true≢false (sym (all x (ap (λ o. some_has has_at o x) two ∙ has)) ∙ ap (λ o. some_has has_at o x) one))
    | inr has ↦ has
  ],
)

pub under_none : (cuts other : Cuts) (id : RecordId) → lookup (is_at (id_cmp id)) other ≡ None → CoversUnder cuts other id
under_none cuts other id two x h = absurd (true≢false (sym h ∙ ap (λ o. some_has has_at o x) two))

-- behind the merge of one name's value all of it is taken
pub under_merged : (now other new : Cuts) (id : RecordId) (theirs : List Start) → lookup (is_at (id_cmp id)) other ≡ Some theirs
    → IsUnion has_cut now ((id, theirs) ∷ []) new → CoversUnder new other id
under_merged now other new id theirs two u x h =
    u (id, x) ∙ or_right _ _ (entry_has id_cmp has_at id_total id theirs x (sym (ap (λ o. some_has has_at o x) two) ∙ h))

-- ---- a merge under one name

-- a result that was made of another one, as `map_err` does, is good where that one was
pub like_ok : {T D E A P : Type 0} (made : Result T D) (first : Result T E) → is_ok made ≡ is_ok first → OnOk first A → (A → P) → OnOk made P
like_ok (Ok x) (Ok y) same h all = all h
like_ok (Ok x) (Err e) same h all = absurd (true≢false same)
like_ok (Err d) first same h all = tt

pub like_err : {T D E P : Type 0} (Q : E → Type 0) (made : Result T D) (first : Result T E) → is_ok made ≡ is_ok first → IfErr first Q
    → ((e : E) → Q e → P) → OnErr made P
like_err Q (Ok x) first same h all = tt
like_err Q (Err d) (Ok y) same h all = absurd (true≢false (sym same))
like_err Q (Err d) (Err e) same h all = all e h

module _ (names : List RecordId) (values : List (List Start)) (id : RecordId) (at : ℕ) (mine theirs new : List Start)
    (place : place_of id names ≡ Some at) (within : at < length values) (here : slice_get values at ≡ Some mine) where
  held : lookup (is_at (id_cmp id)) (zip names values) ≡ Some mine
  held = one_lookup (zip names values) id ∙ sym (found_at names values id at place within) ∙ here

  changed : IsChangedAt id_cmp (zip names values) (zip names (set values at new)) id new
  changed = changed_from (zip names values) (zip names (set values at new)) id new (given_at names values id at new place within)

  -- what the value at the name's place gets, the map gets under the name
  pub union_here : IsUnion has_at mine theirs new → IsUnion has_cut (zip names values) ((id, theirs) ∷ []) (zip names (set values at new))
  union_here u = union_at exact_ids id_total has_at (zip names values) (zip names (set values at new)) id mine theirs new held changed u

  pub between_here : IsBetween has_at mine theirs new → IsBetween has_cut (zip names values) ((id, theirs) ∷ []) (zip names (set values at new))
  between_here b = between_at exact_ids id_total has_at (zip names values) (zip names (set values at new)) id mine theirs new held changed b

-- a name that is new comes with what its value takes
pub union_inserted : (old new : Cuts) (id : RecordId) (theirs copy : List Start) → None ≡ lookup (same_id id) old
    → ((q : RecordId) → lookup (same_id q) new ≡ cond (same_id id q) (Some copy) (lookup (same_id q) old))
    → IsSame has_at theirs copy → IsUnion has_cut old ((id, theirs) ∷ []) new
union_inserted old new id theirs copy absent inserted same =
    union_new exact_ids id_total has_at old new id theirs copy (one_lookup old id ∙ sym absent) (changed_from old new id copy inserted) same

-- ---- under one name after the other

-- the name stands at the index or behind it
pub record StandsFrom (names : List RecordId) (index : ℕ) (id : RecordId) : Type 0 where
  pub at : ℕ
  pub behind : index ≤ at
  pub there : slice_get names at ≡ Some id

-- the first takes what the second takes, but for what stands under the names from the index on
abbrev pub CoversBut : Cuts → Cuts → List RecordId → ℕ → Type 0
CoversBut cuts other names index =
    (p : RecordId × (ℕ × ℕ)) → has_cut other p ≡ true → (has_cut cuts p ≡ true) ⊎ StandsFrom names index p.0

further : (name : RecordId) (names : List RecordId) (id : RecordId) → StandsFrom names 0 id → StandsFrom (name ∷ names) 0 id
further name names id h = record { at = suc h.at; behind = omega arith; there = h.there }

stands : (names : List RecordId) (values : List (List Start)) (id : RecordId) (x : ℕ × ℕ)
    → some_has has_at (lookup (same_id id) (zip names values)) x ≡ true → StandsFrom names 0 id
stands [] values id x h = absurd (true≢false (sym h))
stands (name ∷ names) [] id x h = absurd (true≢false (sym h))
stands (name ∷ names) (value ∷ values) id x h = elim (cases_Bool (same_id id name)) [
  | inl same ↦ record { at = 0; behind = omega arith; there = ap Some (sym (same_id_true id name same)) }
  | inr other ↦ further name names id (stands names values id x
      (sym (ap (λ o. some_has has_at o x) (cond-false (same_id id name) (Some value) (lookup (same_id id) (zip names values)) other)) ∙ h))
]

pub but_all : (cuts : Cuts) (names : List RecordId) (values : List (List Start)) → CoversBut cuts (zip names values) names 0
but_all cuts names values p h =
    inr (stands names values p.0 p.1 (sym (ap (λ o. some_has has_at o p.1) (one_lookup (zip names values) p.0)) ∙ h))

pub but_none : (cuts other : Cuts) (names : List RecordId) (index : ℕ) → length names ≤ index → CoversBut cuts other names index
    → Includes has_cut cuts other
but_none cuts other names index end but p h = elim (but p h) [
  | inl q ↦ q
  | inr left ↦ absurd (omega (arith, end, left.behind, slice_get_within names left.at p.0 left.there))
]

one_name : (names : List RecordId) (i j : ℕ) (a b : RecordId) → i ≡ j → slice_get names i ≡ Some a → slice_get names j ≡ Some b → a ≡ b
one_name names i j a b same one two = let found : Some a ≡ Some b = sym one ∙ ap (slice_get names) same ∙ two in cc

-- one name less is left
pub but_next : (cuts new other : Cuts) (names : List RecordId) (index : ℕ) (id : RecordId) → slice_get names index ≡ Some id
    → Includes has_cut new cuts → CoversUnder new other id → CoversBut cuts other names index → CoversBut new other names (index + 1)
but_next cuts new other names index id at kept under but p h = elim (but p h) [
  | inl q ↦ inl (kept p q)
  | inr left ↦ elim (cases_eq index left.at) [
    | inl same ↦
        let name : id ≡ p.0 = one_name names index left.at id p.0 same at left.there in
        inl (subst (λ q. has_cut new (q, p.1) ≡ true) name (under p.1 (subst (λ q. has_cut other (q, p.1) ≡ true) (sym name) h)))
    | inr other ↦ inr (record { at = left.at; behind = omega (arith, other, left.behind); there = left.there })
  ]
]

-- ---- a merge under one name after the other

-- the names before the index were merged
pub record MergedTo (old other now : Cuts) (names : List RecordId) (index : ℕ) : Type 0 where
  pub between : IsBetween has_cut old other now
  pub but : CoversBut now other names index

pub merged_none : (old : Cuts) (names : List RecordId) (values : List (List Start)) → MergedTo old (zip names values) old names 0
merged_none old names values = record {
  between = record { kept = λ x h. h; within = λ x h. or_left _ _ h };
  but = but_all old names values;
}

pub merged_all : (old other now : Cuts) (names : List RecordId) (index : ℕ) → length names ≤ index → MergedTo old other now names index
    → IsUnion has_cut old other now
merged_all old other now names index end h x =
    both_ways _ _ (h.between.within x) (λ either. elim (or_cases _ _ either) [
      | inl one ↦ h.between.kept x one
      | inr two ↦ but_none now other names index end h.but x two
    ])

-- what a merge under one name leaves lies between, also where memory was refused
pub between_more : (old other now new : Cuts) (id : RecordId) (theirs : List Start) → lookup (is_at (id_cmp id)) other ≡ Some theirs
    → IsBetween has_cut old other now → IsBetween has_cut now ((id, theirs) ∷ []) new → IsBetween has_cut old other new
between_more old other now new id theirs two before step = record {
  kept = λ x h. step.kept x (before.kept x h);
  within = λ x h. elim (or_cases _ _ (step.within x h)) [
    | inl q ↦ before.within x q
    | inr q ↦ or_right _ _ (entry_in id_cmp has_at exact_ids other (id, theirs) two x q)
  ];
}

pub merged_more : (old other now new : Cuts) (names : List RecordId) (index : ℕ) (id : RecordId) (theirs : List Start)
    → slice_get names index ≡ Some id → lookup (is_at (id_cmp id)) other ≡ Some theirs → IsUnion has_cut now ((id, theirs) ∷ []) new
    → MergedTo old other now names index → MergedTo old other new names (index + 1)
merged_more old other now new names index id theirs at two u h = record {
  between = between_more old other now new id theirs two h.between
      (record { kept = λ x q. u x ∙ or_left _ _ q; within = λ x q. sym (u x) ∙ q });
  but = but_next now new other names index id at (λ x q. u x ∙ or_left _ _ q) (under_merged now other new id theirs two u) h.but;
}

-- a name under which the other has nothing
pub merged_past : (old other now : Cuts) (names : List RecordId) (index : ℕ) (id : RecordId)
    → slice_get names index ≡ Some id → lookup (is_at (id_cmp id)) other ≡ None
    → MergedTo old other now names index → MergedTo old other now names (index + 1)
merged_past old other now names index id at two h = record {
  between = h.between;
  but = but_next now now other names index id at (λ x q. q) (under_none now other id two) h.but;
}
