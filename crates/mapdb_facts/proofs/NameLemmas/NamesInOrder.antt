-- Values that are looked up by names in their order.
use Rattle.std.specs.Prelude.{◌≡◌, Bool, true, cond, ◌||◌, List, [], ◌∷◌, Option, Some, None, refl}
use Rattle.std.proofs.Common.{sym, ◌∙◌, ap, inl, inr}
use Rattle.std.specs.Option.{is_some}
use Rattle.std.specs.BTreeMap.{is_at}
use Rattle.std.specs.List.{list_any}
use Rattle.std.specs.Map.{lookup}
use Rattle.std.proofs.lemmas.Bool.{and_from, cond-false, cond-true, or_cases, or_left, or_right, true≢false}
use Rattle.mapdb_join.specs.Entries.{IsChangedAt, has_under, some_has}
use Rattle.mapdb_join.proofs.Walking.{AreFound, Covered, any_entry, in_entry}
use Rattle.mapdb_facts.specs.declared.names.RecordId.{RecordId}
use Rattle.mapdb_facts.specs.ByName.{with_value, with_values}
use Rattle.mapdb_facts.specs.Kept.{id_cmp}
pub use Rattle.mapdb_facts.specs.NameOrders.{id_total}
use Rattle.mapdb_facts.specs.Names.{same_id}
use Rattle.mapdb_facts.proofs.Lists.Comparing.{exact_ids, id_at}
use Rattle.mapdb_facts.proofs.Lists.SameNames.{same_id_itself}

-- names that compare alike are the same, so either test finds the same
pub one_lookup : {V : Type 0} (entries : List (RecordId × V)) (id : RecordId) → lookup (is_at (id_cmp id)) entries ≡ lookup (same_id id) entries
one_lookup [] id = refl
one_lookup (e ∷ entries) id =
    ap (λ b. cond b (Some e.1) (lookup (is_at (id_cmp id)) entries)) (id_at id e.0)
    ∙ ap (λ o. cond (same_id id e.0) (Some e.1) o) (one_lookup entries id)

-- one name has another value, and each other name the one that it had
pub changed_from : {V : Type 0} (old new : List (RecordId × V)) (id : RecordId) (value : V)
    → ((q : RecordId) → lookup (same_id q) new ≡ cond (same_id id q) (Some value) (lookup (same_id q) old))
    → IsChangedAt id_cmp old new id value
changed_from old new id value h = record {
  here = one_lookup new id ∙ h id ∙ cond-true (same_id id id) (Some value) (lookup (same_id id) old) (same_id_itself id);
  others = λ q apart.
      one_lookup new q ∙ h q
      ∙ cond-false (same_id id q) (Some value) (lookup (same_id q) old) (sym (id_at id q) ∙ apart)
      ∙ sym (one_lookup old q);
}

-- what is found by names, one by one
abbrev pub found_by : {V : Type 0} → List (RecordId × V) → List RecordId → List (RecordId × V)
found_by entries ids = with_values (λ id. lookup (is_at (id_cmp id)) entries) ids

module _ {V : Type 0} (entries : List (RecordId × V)) where
  -- it is found
  found_with : (id : RecordId) (o : Option V) (rest : List (RecordId × V)) → lookup (is_at (id_cmp id)) entries ≡ o → AreFound id_cmp entries rest → AreFound id_cmp entries (with_value id o rest)
  found_with id None rest e all = all
  found_with id (Some v) rest e all = (e, all)

  pub are_found : (ids : List RecordId) → AreFound id_cmp entries (found_by entries ids)
  are_found [] = tt
  are_found (id ∷ ids) = found_with id (lookup (is_at (id_cmp id)) entries) (found_by entries ids) refl (are_found ids)

  -- what is had under one of the names is had by one of those found
  module _ {A : Type 0} (has : V → A → Bool) (p : RecordId × A) (had : has_under id_cmp has entries p ≡ true) where
    had_at : (id : RecordId) (o : Option V) → lookup (is_at (id_cmp id)) entries ≡ o → is_at (id_cmp p.0) id ≡ true → some_has has o p.1 ≡ true
    had_at id o e here = sym (ap (λ w. some_has has w p.1) (ap (λ q. lookup (is_at (id_cmp q)) entries) (exact_ids p.0 id here) ∙ e)) ∙ had

    any_with : (id : RecordId) (o : Option V) (rest : List (RecordId × V)) (later : Bool) → lookup (is_at (id_cmp id)) entries ≡ o → (is_at (id_cmp p.0) id || later) ≡ true
        → (later ≡ true → any_entry id_cmp has rest p ≡ true) → any_entry id_cmp has (with_value id o rest) p ≡ true
    any_with id None rest later e k go = elim (or_cases (is_at (id_cmp p.0) id) later k) [
      | inl here ↦ absurd (true≢false (sym (had_at id None e here)))
      | inr behind ↦ go behind
    ]
    any_with id (Some v) rest later e k go = elim (or_cases (is_at (id_cmp p.0) id) later k) [
      | inl here ↦ or_left _ _ (and_from (is_at (id_cmp p.0) id) (has v p.1) here (had_at id (Some v) e here))
      | inr behind ↦ or_right (in_entry id_cmp has p (id, v)) _ (go behind)
    ]

    pub any_found : (ids : List RecordId) → list_any (is_at (id_cmp p.0)) ids ≡ true → any_entry id_cmp has (found_by entries ids) p ≡ true
    any_found [] k = absurd (true≢false (sym k))
    any_found (id ∷ ids) k = any_with id (lookup (is_at (id_cmp id)) entries) (found_by entries ids) (list_any (is_at (id_cmp p.0)) ids) refl k (any_found ids)

  -- it stands in the order of the names
  abbrev is_held : RecordId → Bool
  is_held id = is_some (lookup (is_at (id_cmp id)) entries)

  some_held : {A : Type 0} (has : V → A → Bool) (o : Option V) (x : A) → some_has has o x ≡ true → is_some o ≡ true
  some_held has None x h = absurd (true≢false (sym h))
  some_held has (Some v) x h = refl

  -- where each name by which something is had is one of these, nothing is left out
  module _ {A : Type 0} (has : V → A → Bool) (map : List (RecordId × V)) (ids : List RecordId)
      (all : (id : RecordId) → list_any (is_at (id_cmp id)) ids ≡ is_some (lookup (is_at (id_cmp id)) entries)) where
    any_had : (p : RecordId × A) → has_under id_cmp has entries p ≡ true → any_entry id_cmp has (found_by entries ids) p ≡ true
    any_had p h = any_found has p h ids (all p.0 ∙ some_held has (lookup (is_at (id_cmp p.0)) entries) p.1 h)

    pub covered_from : Covered id_cmp has map entries (found_by entries ids)
    covered_from = record { left = λ p h. inr (any_had p h); found = are_found ids }
