-- The records that are looked up by ascending names are those of a list that pass.
use Rattle.std.proofs.Common.{◌≡◌, ℕ, zero, arith, ◌+◌, ◌<◌, ◌≤◌, Bool, true, false, cond, Some, refl, sym, ap, subst, ◌∙◌, List, [], ◌∷◌, ◌++◌, add-one, append_assoc, drop, get_or, inl, inr, length, suc}
use Rattle.std.specs.Prelude.{◌&&◌, ◌||◌, ◌⊎◌, Option, None, filter, if◌then◌else◌}
use Rattle.std.specs.List.{All, AllByRecursion, cons_option, dedup, dedup_from, filter_map, list_any}
use Rattle.std.specs.List.Sorted.{IsPermutation, IsSorted, IsStrictlySortedBy}
use Rattle.std.specs.BTreeMap.{is_at}
use Rattle.std.specs.declared.cmp.Ordering.TheVariants.{Less}
use Rattle.std.proofs.Math.Seq.{drop-cons}
use Rattle.std.proofs.lemmas.Bool.{and_from, and_parts, cases_Bool, cond-true, false≢true, or_right}
use Rattle.std.proofs.lemmas.List.Elements.{All-from_recursion}
use Rattle.std.proofs.lemmas.List.Kept.{IsStrictlySortedBy-dedup}
use Rattle.std.proofs.lemmas.List.Sorted.{list_any-IsPermutation}
use Rattle.std.proofs.lemmas.Map.Keys.{sorted_head, sorted_tail}
use Rattle.mapdb_facts.proofs.RecordLemmas.Ascending.{after_at, after_from, among_find, ascending_records, by_id, find_among}
use Rattle.mapdb_facts.proofs.Lists.Comparing.{exact_ids, id_at, before_from}
use Rattle.mapdb_facts.proofs.RecordLemmas.Listed.{find_listed}
use Rattle.mapdb_facts.proofs.Lists.SameLists.{same_lists}
use Rattle.mapdb_facts.proofs.Lists.SameNames.{none_some, same_id_itself, same_id_true, some_same}
use Rattle.mapdb_facts.specs.Facts.{births, records_of_facts, state_of_facts}
use Rattle.mapdb_facts.specs.Kept.{id_cmp, names_in}
use Rattle.mapdb_facts.specs.Looking.{Holds}
use Rattle.mapdb_facts.specs.Merging.{IsNamed}
use Rattle.mapdb_facts.specs.Names.{is_before, same_id}
use Rattle.mapdb_facts.specs.Records.{AllAfter, IsAmong, IsAscending}
use Rattle.mapdb_facts.specs.State.{State}
use Rattle.mapdb_facts.specs.declared.holding.Facts.{Facts}
use Rattle.mapdb_facts.specs.declared.names.RecordId.{RecordId}
use Rattle.mapdb_facts.specs.declared.operations.Record.{Record}
use Rattle.mapdb_facts.proofs.NameLemmas.NamesInOrder.{id_total}
pub use Rattle.mapdb_lists.proofs.PlaceLemmas.PlaceNames.{named_front, named_last}
use Rattle.mapdb_rights.specs.AllBut.{IsAllBut}
use Rattle.mapdb_rights.specs.Meeting.{is_named, record_if}
use Rattle.mapdb_rights.proofs.Lists.AllBut.{all_but_failing}
use Rattle.mapdb_rights.proofs.Lists.Passing.{among_filter, ascending_filter, filter_among}

-- ---- names

-- one name is in order, and so is none
pub few_in_order : (names : List RecordId) → length names < 2 → IsStrictlySortedBy id_cmp names
unfolding IsStrictlySortedBy
few_in_order [] few = tt
few_in_order (id ∷ []) few = (tt, tt)
few_in_order (id ∷ other ∷ more) few = let no : ⊥ = omega (arith, few) in absurd no

abbrev pub itself : RecordId → RecordId
itself id = id

after_keys : (id : RecordId) (names : List RecordId) → AllByRecursion (λ other. id_cmp id other ≡ Less) names → AllAfter itself id names
after_keys id [] h = tt
after_keys id (other ∷ names) h = (before_from id other h.0, after_keys id names h.1)

-- the keys of a set of names ascend
pub ascending_keys : (names : List RecordId) → IsStrictlySortedBy id_cmp names → IsAscending itself names
ascending_keys [] h = tt
ascending_keys (id ∷ names) h = (after_keys id names (sorted_head id_cmp id names h), ascending_keys names (sorted_tail id_cmp id names h))

-- a name of a set is one of its keys
pub among_keys : (id : RecordId) (names : List RecordId) → list_any (is_at (id_cmp id)) names ≡ true → IsAmong id names
among_keys id [] h = absurd (false≢true h)
among_keys id (other ∷ names) h = elim (cases_Bool (is_at (id_cmp id) other)) [
  | inl here ↦ inl (sym (exact_ids id other here))
  | inr apart ↦ inr (among_keys id names (sym (ap (λ (b : Bool). b || list_any (is_at (id_cmp id)) names) apart) ∙ h))
]

-- of names in order one of each is left
module _ (alike : RecordId → RecordId → Bool) (exact : (x y : RecordId) → alike x y ≡ same_id x y) where
  first_kept : (id k x : RecordId) (xs : List RecordId) → (b : Bool) → alike x k ≡ b → (is_named (k ∷ xs) id ≡ true → is_named (dedup_from alike k xs) id ≡ true)
      → (is_named (x ∷ xs) id ≡ true → is_named (dedup_from alike x xs) id ≡ true) → is_named (k ∷ x ∷ xs) id ≡ true
      → is_named (cond b (dedup_from alike k xs) (k ∷ dedup_from alike x xs)) id ≡ true
  first_kept id k x xs true same behind other h = behind (once (is_at (id_cmp id) k) (is_at (id_cmp id) x) (is_named xs id) (ap (λ (y : RecordId). is_at (id_cmp id) y) (same_id_true x k (sym (exact x k) ∙ same))) h)
    where
      once : (a b c : Bool) → b ≡ a → (a || (b || c)) ≡ true → (a || c) ≡ true
      once true b c e g = refl
      once false b c e g = sym (ap (λ (t : Bool). t || c) e) ∙ g
  first_kept id k x xs false apart other behind h = either (is_at (id_cmp id) k) behind h
    where
      either : (a : Bool) → (is_named (x ∷ xs) id ≡ true → is_named (dedup_from alike x xs) id ≡ true) → (a || is_named (x ∷ xs) id) ≡ true → (a || is_named (dedup_from alike x xs) id) ≡ true
      either true next g = refl
      either false next g = next g

  kept_from : (id k : RecordId) (xs : List RecordId) → is_named (k ∷ xs) id ≡ true → is_named (dedup_from alike k xs) id ≡ true
  kept_from id k [] h = h
  kept_from id k (x ∷ xs) h = first_kept id k x xs (alike x k) refl (kept_from id k xs) (kept_from id x xs) h

  kept_once : (id : RecordId) (names : List RecordId) → is_named names id ≡ true → is_named (dedup alike names) id ≡ true
  kept_once id [] h = h
  kept_once id (x ∷ xs) h = kept_from id x xs h

  module _ (old sorted new : List RecordId) (moved : IsPermutation old sorted) (left : new ≡ dedup alike sorted) where
    -- names that were sorted, and of which no name is left twice
    pub names_rise : IsSorted id_cmp sorted → IsStrictlySortedBy id_cmp new
    names_rise rising =
        subst (λ (names : List RecordId). IsStrictlySortedBy id_cmp names) (sym left)
        (IsStrictlySortedBy-dedup id_total (λ x y. exact x y ∙ sym (id_at x y)) sorted rising)

    -- each name is still there
    pub names_stay : (id : RecordId) → is_named old id ≡ true → is_named new id ≡ true
    names_stay id h =
        subst (λ (names : List RecordId). is_named names id ≡ true) (sym left)
        (kept_once id sorted (sym (list_any-IsPermutation (is_at (id_cmp id)) old sorted moved) ∙ h))

-- ---- those that are looked up

module _ (test : Record → Bool) (S : State) (named : IsNamed S) where
  abbrev looked : RecordId → Option Record
  looked id = record_if test (S.record_at id)

  -- the record that a name finds, where it passes
  record LookedUp (id : RecordId) (r : Record) : Type 0 where
    held : Holds S r
    passes : test r ≡ true
    own : r.id ≡ id

  looked_up : (id : RecordId) (r : Record) → looked id ≡ Some r → LookedUp id r
  looked_up id r h = of_record (S.record_at id) refl h
    where
      of_test : (s : Record) → S.record_at id ≡ Some s → (b : Bool) → test s ≡ b → (if b then Some s else None) ≡ Some r → LookedUp id r
      of_test s at true passes k =
          subst (λ (x : Record). LookedUp id x) (some_same s r k)
          (record { held = subst (λ (i : RecordId). S.record_at i ≡ Some s) (sym (named id s at)) at; passes = passes; own = named id s at })
      of_test s at false fails k = absurd (none_some r k)

      of_record : (o : Option Record) → S.record_at id ≡ o → record_if test o ≡ Some r → LookedUp id r
      of_record None at k = absurd (none_some r k)
      of_record (Some s) at k = of_test s at (test s) refl k

  -- what is found was asked for
  record Found (names : List RecordId) (r : Record) : Type 0 where
    asked : IsAmong r.id names
    held : Holds S r
    passes : test r ≡ true

  found_names : (names : List RecordId) (r : Record) → IsAmong r (filter_map looked names) → Found names r
  found_names [] r k = absurd k
  found_names (id ∷ names) r k = by (found_names names r) (looked id) refl k
    where
      further : Found names r → Found (id ∷ names) r
      further found = record { asked = inr found.asked; held = found.held; passes = found.passes }

      by : (IsAmong r (filter_map looked names) → Found names r) → (o : Option Record) → looked id ≡ o → IsAmong r (cons_option o (filter_map looked names)) → Found (id ∷ names) r
      by later None at m = further (later m)
      by later (Some s) at (inl e) =
          let found = looked_up id s at in
          subst (λ (x : Record). Found (id ∷ names) x) e (record { asked = inl (sym found.own); held = found.held; passes = found.passes })
      by later (Some s) at (inr m) = further (later m)

  names_found : (names : List RecordId) (r : Record) → IsAmong r.id names → Holds S r → test r ≡ true → IsAmong r (filter_map looked names)
  names_found [] r k held passes = absurd k
  names_found (id ∷ names) r (inl e) held passes =
      let here : looked id ≡ Some r = ap (λ (i : RecordId). record_if test (S.record_at i)) e ∙ ap (record_if test) held ∙ cond-true (test r) (Some r) None passes in
      subst (λ (o : Option Record). IsAmong r (cons_option o (filter_map looked names))) (sym here) (inl refl)
  names_found (id ∷ names) r (inr k) held passes = by (looked id) (names_found names r k held passes)
    where
      by : (o : Option Record) → IsAmong r (filter_map looked names) → IsAmong r (cons_option o (filter_map looked names))
      by None m = m
      by (Some s) m = inr m

  ascending_looked : (names : List RecordId) → IsAscending itself names → IsAscending by_id (filter_map looked names)
  ascending_looked [] rising = tt
  ascending_looked (id ∷ names) rising = by (looked id) refl (ascending_looked names rising.1)
    where
      by : (o : Option Record) → looked id ≡ o → IsAscending by_id (filter_map looked names) → IsAscending by_id (cons_option o (filter_map looked names))
      by None at later = later
      by (Some s) at later = (
        after_from by_id s.id (filter_map looked names)
            (λ r k. subst (λ (i : RecordId). is_before i r.id ≡ true) (sym (looked_up id s at).own) (after_at itself id names r.id rising.0 (found_names names r k).asked)),
        later,
      )

-- the record passes, and its name is one of these
abbrev pub passes_named : (Record → Bool) → List RecordId → Record → Bool
passes_named test names r = test r && is_named names r.id

-- a key of a set of names is one of them
pub named_among : (id : RecordId) (names : List RecordId) → IsAmong id names → is_named names id ≡ true
named_among id [] k = absurd k
named_among id (other ∷ names) (inl e) =
    ap (λ (b : Bool). b || is_named names id) (id_at id other ∙ ap (λ (o : RecordId). same_id id o) e ∙ same_id_itself id)
named_among id (other ∷ names) (inr k) = or_right (is_at (id_cmp id) other) (is_named names id) (named_among id names k)

-- nothing is named behind the last
pub none_from : (names : List RecordId) (i : ℕ) (id : RecordId) → length names ≤ i → is_named (drop i names) id ≡ true → ⊥
none_from [] zero id out h = false≢true h
none_from [] (suc i) id out h = false≢true h
none_from (name ∷ names) zero id out h = absurd (omega arith)
none_from (name ∷ names) (suc i) id out h = none_from names i id (omega arith) h

-- what is named from a place on stands there or is named behind it
pub named_next : (names : List RecordId) (i : ℕ) (d id : RecordId) → i < length names → is_named (drop i names) id ≡ true → (get_or names i d ≡ id) ⊎ (is_named (drop (i + 1) names) id ≡ true)
named_next names i d id inside h = by (is_at (id_cmp id) (get_or names i d)) refl (sym (ap (λ (xs : List RecordId). is_named xs id) (drop-cons names i d inside)) ∙ h)
  where
    by : (b : Bool) → is_at (id_cmp id) (get_or names i d) ≡ b → (b || is_named (drop (suc i) names) id) ≡ true → (get_or names i d ≡ id) ⊎ (is_named (drop (i + 1) names) id ≡ true)
    by true same k = inl (sym (same_id_true id (get_or names i d) (sym (id_at id (get_or names i d)) ∙ same)))
    by false apart k = inr ((λ j. is_named (drop (add-one i j) names) id) ∙ k)

-- Those that are looked up are those of the list that pass and are named.
pub looked_is_filtered : (facts : Facts) (test : Record → Bool) (names : List RecordId) → IsNamed (state_of_facts facts) → IsAscending itself names
    → filter_map (λ id. record_if test ((state_of_facts facts).record_at id)) names ≡ filter (passes_named test names) (records_of_facts facts)
looked_is_filtered facts test names named rising =
    same_lists by_id (filter_map (looked test S named) names) (filter both (records_of_facts facts))
    (ascending_looked test S named names rising) (ascending_filter both by_id (records_of_facts facts) ascending)
    (record {
      to = λ r k. let found = found_names test S named names r k in
          among_filter both (records_of_facts facts) r (find_among (records_of_facts facts) r.id r (find_listed facts named r.id ∙ found.held)).0
          (and_from (test r) (is_named names r.id) found.passes (named_among r.id names found.asked));
      from = λ r k. let found = filter_among both (records_of_facts facts) r k in
          let parts = and_parts (test r) (is_named names r.id) found.1 in
          let held : Holds S r = sym (find_listed facts named r.id) ∙ among_find (records_of_facts facts) r ascending found.0 in
          names_found test S named names r (among_keys r.id names parts.1) held parts.0;
    })
  where
    S : State
    S = state_of_facts facts

    both : Record → Bool
    both = passes_named test names

    ascending : IsAscending by_id (records_of_facts facts)
    ascending = ascending_records (births (state_of_facts facts) (names_in facts.records))

-- Where each held record that passes is named, or may go, all but those that may go are found.
pub looked_are_left : (facts : Facts) (may_go : Record → Type 0) (test : Record → Bool) (names : List RecordId) → IsNamed (state_of_facts facts) → IsAscending itself names
    → ((r : Record) → Holds (state_of_facts facts) r → test r ≡ true → may_go r ⊎ (is_named names r.id ≡ true))
    → IsAllBut may_go (filter test (records_of_facts facts)) (filter_map (λ id. record_if test ((state_of_facts facts).record_at id)) names)
looked_are_left facts may_go test names named rising covered =
    subst (λ (left : List Record). IsAllBut may_go (filter test (records_of_facts facts)) left) (sym (looked_is_filtered facts test names named rising))
    (all_but_failing may_go test (λ (r : Record). is_named names r.id) (records_of_facts facts)
    (λ r k passes. covered r (sym (find_listed facts named r.id) ∙ among_find (records_of_facts facts) r (ascending_records (births (state_of_facts facts) (names_in facts.records))) k) passes))

-- what one name finds more
pub looked_more : (find : RecordId → Option Record) (names : List RecordId) (i : ℕ) (d : RecordId) (found new all : List Record) → i < length names
    → new ≡ found ++ cons_option (find (get_or names i d)) [] → found ++ filter_map find (drop i names) ≡ all → new ++ filter_map find (drop (i + 1) names) ≡ all
looked_more find names i d found new all inside more before =
    (λ j. more j ++ filter_map find (drop (add-one i j) names))
    ∙ append_assoc found (cons_option (find (get_or names i d)) []) (filter_map find (drop (suc i) names))
    ∙ ap (λ (rest : List Record). found ++ rest) (joined (find (get_or names i d)) (filter_map find (drop (suc i) names)) ∙ sym (ap (filter_map find) (drop-cons names i d inside)))
    ∙ before
  where
    joined : (o : Option Record) (rest : List Record) → cons_option o [] ++ rest ≡ cons_option o rest
    joined None rest = refl
    joined (Some r) rest = refl

-- what is true of each member is true of all
all_members : (P : Record → Type 0) (xs : List Record) → ((r : Record) → IsAmong r xs → P r) → AllByRecursion P xs
all_members P [] each = tt
all_members P (r ∷ xs) each = (each r (inl refl), all_members P xs (λ s k. each s (inr k)))

-- what is true of each held record is true of those that are looked up
pub all_looked : (facts : Facts) (test : Record → Bool) (names : List RecordId) (P : Record → Type 0) → IsNamed (state_of_facts facts) → IsAscending itself names
    → ((r : Record) → Holds (state_of_facts facts) r → P r) → All P (filter_map (λ id. record_if test ((state_of_facts facts).record_at id)) names)
all_looked facts test names P named rising each =
    subst (λ (rs : List Record). All P rs) (sym (looked_is_filtered facts test names named rising))
    (All-from_recursion P (filter (passes_named test names) (records_of_facts facts)) (all_members P (filter (passes_named test names) (records_of_facts facts)) (λ r k.
    each r (sym (find_listed facts named r.id)
    ∙ among_find (records_of_facts facts) r (ascending_records (births (state_of_facts facts) (names_in facts.records))) (filter_among (passes_named test names) (records_of_facts facts) r k).0))))
