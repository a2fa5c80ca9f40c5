-- The records of facts in ascending order follow from their state.
use Rattle.std.proofs.Common.{◌≡◌, ℕ, Bool, true, false, Some, refl, sym, ap, subst, ◌∙◌, List, [], ◌∷◌, ◌++◌, inl, inr}
use Rattle.std.specs.Prelude.{◌⊎◌, Option, None, cond}
use Rattle.std.proofs.lemmas.Bool.{cases_Bool, cond-true, cond-false, false≢true}
use Rattle.std.specs.Map.{lookup}
use Rattle.std.specs.BTreeMap.{is_at}
use Rattle.mapdb_facts.specs.declared.holding.Facts.{Facts}
use Rattle.mapdb_facts.specs.declared.names.RecordId.{RecordId}
use Rattle.mapdb_facts.specs.declared.operations.Op.{Op}
use Rattle.mapdb_facts.specs.declared.operations.Record.{Record}
use Rattle.mapdb_facts.specs.Facts.{birth_of, births, records_of_facts, state_of_facts}
use Rattle.mapdb_facts.specs.Kept.{Records, id_cmp, names_in, record_in}
use Rattle.mapdb_facts.specs.Looking.{IsFound, IsGreatest}
use Rattle.mapdb_facts.specs.Merging.{IsNamed}
use Rattle.mapdb_facts.specs.Names.{same_id}
use Rattle.mapdb_facts.specs.Records.{ComesNext, IsAmong, greatest_number, records_of}
use Rattle.mapdb_facts.specs.State.{State, first_of, state_of}
use Rattle.mapdb_facts.proofs.RecordLemmas.Ascending.{ascending_records, comes_next, find_record, find_records, found_listed, greatest-number, same_lists}
use Rattle.mapdb_facts.proofs.Maps.Atoms.{same_find}
use Rattle.mapdb_facts.proofs.Lists.Comparing.{exact_ids}
use Rattle.mapdb_facts.proofs.Lists.SameNames.{none_some, same_id_itself, same_id_true, some_same}

-- what is found among births was found by a name
birth_found : (S : State) → IsNamed S → (o : Option Record) (x : RecordId) → S.record_at x ≡ o → (ops : List Op) (id : RecordId) (r : Record) → ((state_of ops).record_at id ≡ Some r → S.record_at id ≡ Some r) → (state_of (birth_of o ++ ops)).record_at id ≡ Some r → S.record_at id ≡ Some r
birth_found S named None x at ops id r later h = later h
birth_found S named (Some s) x at ops id r later h =
    elim (cases_Bool (same_id s.id id)) [
      | inl same ↦
          let e : s ≡ r = some_same s r (sym (ap (λ (o : Option Record). first_of o ((state_of ops).record_at id)) (cond-true (same_id s.id id) (Some s) None same)) ∙ h) in
          subst (λ (y : RecordId). S.record_at y ≡ Some r) (sym (named x s at) ∙ same_id_true s.id id same) (at ∙ ap Some e)
      | inr other ↦ later (sym (ap (λ (o : Option Record). first_of o ((state_of ops).record_at id)) (cond-false (same_id s.id id) (Some s) None other)) ∙ h)
    ]

births_found : (S : State) → IsNamed S → (ids : List RecordId) (id : RecordId) (r : Record) → (state_of (births S ids)).record_at id ≡ Some r → S.record_at id ≡ Some r
births_found S named [] id r h = absurd (none_some r h)
births_found S named (x ∷ ids) id r h = birth_found S named (S.record_at x) x refl (births S ids) id r (births_found S named ids id r) h

-- what is found by one of the names is found among the births
found_birth : (S : State) → IsNamed S → (o : Option Record) (x : RecordId) → S.record_at x ≡ o → (ops : List Op) (id : RecordId) (r : Record) → S.record_at id ≡ Some r → (x ≡ id) ⊎ ((state_of ops).record_at id ≡ Some r) → (state_of (birth_of o ++ ops)).record_at id ≡ Some r
found_birth S named None x at ops id r h (inl here) = absurd (none_some r (sym at ∙ ap (λ (y : RecordId). S.record_at y) here ∙ h))
found_birth S named None x at ops id r h (inr later) = later
found_birth S named (Some s) x at ops id r h where_is =
    elim (cases_Bool (same_id s.id id)) [
      | inl same ↦
          let e : s ≡ r = some_same s r (sym at ∙ ap (λ (y : RecordId). S.record_at y) (sym (named x s at) ∙ same_id_true s.id id same) ∙ h) in
          ap (λ (o : Option Record). first_of o ((state_of ops).record_at id)) (cond-true (same_id s.id id) (Some s) None same) ∙ ap Some e
      | inr other ↦ ap (λ (o : Option Record). first_of o ((state_of ops).record_at id)) (cond-false (same_id s.id id) (Some s) None other) ∙ later other where_is
    ]
  where
    later : same_id s.id id ≡ false → (x ≡ id) ⊎ ((state_of ops).record_at id ≡ Some r) → (state_of ops).record_at id ≡ Some r
    later other (inl here) = absurd (false≢true (sym other ∙ subst (λ (y : RecordId). same_id s.id y ≡ true) (named x s at ∙ here) (same_id_itself s.id)))
    later other (inr k) = k

found_births : (S : State) → IsNamed S → (ids : List RecordId) (id : RecordId) (r : Record) → IsAmong id ids → S.record_at id ≡ Some r → (state_of (births S ids)).record_at id ≡ Some r
found_births S named [] id r k h = absurd k
found_births S named (x ∷ ids) id r (inl e) h = found_birth S named (S.record_at x) x refl (births S ids) id r h (inl e)
found_births S named (x ∷ ids) id r (inr k) h = found_birth S named (S.record_at x) x refl (births S ids) id r h (inr (found_births S named ids id r k h))

-- a name under which a record stands is listed
pub name_listed : (records : Records) (id : RecordId) (r : Record) → record_in records id ≡ Some r → IsAmong id (names_in records)
name_listed [] id r h = absurd (none_some r h)
name_listed (e ∷ rest) id r h = at (name_listed rest id r) (is_at (id_cmp id) e.0) refl h
  where
    at : (record_in rest id ≡ Some r → IsAmong id (names_in rest)) → (t : Bool) → is_at (id_cmp id) e.0 ≡ t → cond t (Some e.1) (lookup (is_at (id_cmp id)) rest) ≡ Some r → IsAmong id (names_in (e ∷ rest))
    at later true here k = inl (sym (exact_ids id e.0 here))
    at later false other k = inr (later k)

-- the look-up among the births is that of the state
pub births_state : (facts : Facts) → IsNamed (state_of_facts facts) → (id : RecordId) → (state_of (births (state_of_facts facts) (names_in facts.records))).record_at id ≡ (state_of_facts facts).record_at id
births_state facts named id =
    same_find _ _
    (births_found (state_of_facts facts) named (names_in facts.records) id)
    (λ r h. found_births (state_of_facts facts) named (names_in facts.records) id r (name_listed facts.records id r h) h)

pub find_listed : (facts : Facts) → IsNamed (state_of_facts facts) → (id : RecordId) → find_record (records_of_facts facts) id ≡ (state_of_facts facts).record_at id
find_listed facts named id = find_records (births (state_of_facts facts) (names_in facts.records)) id ∙ births_state facts named id

-- equal states have equal records
pub records_of-facts : (facts : Facts) (ops : List Op) → state_of_facts facts ≡ state_of ops → records_of_facts facts ≡ records_of ops
records_of-facts facts ops same =
    same_lists (records_of_facts facts) (records_of ops) (ascending_records (births (state_of_facts facts) (names_in facts.records))) (ascending_records ops)
    (λ id. find_listed facts named id ∙ ap (λ (S : State). S.record_at id) same ∙ sym (find_records ops id))
  where
    named : IsNamed (state_of_facts facts)
    named id r h = (found_listed ops id r (sym (ap (λ (S : State). S.record_at id) same) ∙ h)).1

pub same_records : (a b : Facts) → IsNamed (state_of_facts a) → state_of_facts a ≡ state_of_facts b → records_of_facts a ≡ records_of_facts b
same_records a b named same =
    same_lists (records_of_facts a) (records_of_facts b) (ascending_records (births (state_of_facts a) (names_in a.records))) (ascending_records (births (state_of_facts b) (names_in b.records)))
    (λ id. find_listed a named id ∙ ap (λ (S : State). S.record_at id) same
    ∙ sym (find_listed b (subst (λ (S : State). IsNamed S) same named) id))

-- what is found by the same look-ups is the same
found_with : (S T : State) → ((id : RecordId) → T.record_at id ≡ S.record_at id) → (after : Option RecordId) (o : Option Record) → IsFound S after o → IsFound T after o
found_with S T same after None none = λ s held. none s (sym (same s.id) ∙ held)
found_with S T same after (Some r) next = record {
  held = same r.id ∙ next.held;
  above = next.above;
  least = λ s held h. next.least s (sym (same s.id) ∙ held) h;
}

greatest_with : (S T : State) → ((id : RecordId) → T.record_at id ≡ S.record_at id) → (n : ℕ) → IsGreatest S n → IsGreatest T n
greatest_with S T same n is = record {
  most = λ r held. is.most r (sym (same r.id) ∙ held);
  held = λ some. (let one = is.held some in (one.0, same one.0.id ∙ one.1, one.2));
}

pub next_listed : (facts : Facts) → IsNamed (state_of_facts facts) → (after : Option RecordId) (result : Option Record) → IsFound (state_of_facts facts) after result → ComesNext (records_of_facts facts) after result
next_listed facts named after result found =
    comes_next (births (state_of_facts facts) (names_in facts.records)) after result
    (found_with (state_of_facts facts) (state_of (births (state_of_facts facts) (names_in facts.records))) (births_state facts named) after result found)

pub greatest_listed : (facts : Facts) → IsNamed (state_of_facts facts) → (n : ℕ) → IsGreatest (state_of_facts facts) n → n ≡ greatest_number (records_of_facts facts)
greatest_listed facts named n is =
    greatest-number (births (state_of_facts facts) (names_in facts.records)) n
    (greatest_with (state_of_facts facts) (state_of (births (state_of_facts facts) (names_in facts.records))) (births_state facts named) n is)
