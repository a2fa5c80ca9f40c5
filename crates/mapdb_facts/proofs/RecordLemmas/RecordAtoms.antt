-- A record's look-up and its atom.
use Rattle.std.specs.Prelude.{◌≡◌, Bool, true, false, cond, Option, Some, None, if◌then◌else◌, refl}
use Rattle.std.proofs.Common.{sym, ◌∙◌, ap, subst, inl, inr}
use Rattle.std.specs.Map.{lookup}
use Rattle.std.specs.BTreeMap.{is_at}
use Rattle.std.proofs.lemmas.Bool.{or_cases, or_left, or_right, cases_Bool, cond-true, cond-false, true≢false}
use Rattle.mapdb_join.specs.Atoms.{IsUnion}
use Rattle.mapdb_join.specs.Entries.{some_has}
use Rattle.mapdb_facts.specs.declared.operations.Record.{Record}
use Rattle.mapdb_facts.specs.declared.names.RecordId.{RecordId}
use Rattle.mapdb_facts.specs.Adding.{same_record}
use Rattle.mapdb_facts.specs.Exact.{exact_id, exact_record}
use Rattle.mapdb_facts.specs.HeldRecords.{one_record}
use Rattle.mapdb_facts.specs.Names.{same_id}
use Rattle.mapdb_facts.specs.State.{first_of}
use Rattle.mapdb_facts.specs.Kept.{Records, has_record, id_cmp, record_in}
use Rattle.mapdb_facts.proofs.Lists.Comparing.{exact_ids, id_at}
use Rattle.mapdb_facts.proofs.Maps.Atoms.{same_find}
use Rattle.mapdb_facts.proofs.Lists.SameNames.{none_some, same_id_at, same_id_itself, some_same}
use Rattle.mapdb_facts.proofs.RecordLemmas.SameRecords.{same_record_itself}

inner_has : (o : Option Record) (r : Record) → some_has same_record o r ≡ true → o ≡ Some r
inner_has None r h = absurd (true≢false (sym h))
inner_has (Some s) r h = ap Some (exact_record s r h)

-- an atom is looked up
pub record_of_atom : (records : Records) (id : RecordId) (r : Record) → has_record records (id, r) ≡ true → record_in records id ≡ Some r
record_of_atom records id r h = inner_has (lookup (is_at (id_cmp id)) records) r h

inner_found : (o : Option Record) (r : Record) → o ≡ Some r → some_has same_record o r ≡ true
inner_found None r h = absurd (none_some r h)
inner_found (Some s) r h = ap (λ x. same_record x r) (some_same s r h) ∙ same_record_itself r

-- what is looked up is an atom
pub atom_of_record : (records : Records) (id : RecordId) (r : Record) → record_in records id ≡ Some r → has_record records (id, r) ≡ true
atom_of_record records id r h = inner_found (lookup (is_at (id_cmp id)) records) r h

alone : (b : Bool) (r s : Record) → some_has same_record (cond b (Some r) None) s ≡ true → (b ≡ true) × (r ≡ s)
alone true r s h = (refl, exact_record r s h)
alone false r s h = absurd (true≢false (sym h))

-- the one record's atom stands under its own name
pub from_one_record : (r : Record) (id : RecordId) (s : Record) → has_record (one_record r) (id, s) ≡ true → (same_id r.id id ≡ true) × (r ≡ s)
from_one_record r id s h =
    let f = alone (is_at (id_cmp id) r.id) r s h in
    (same_id_at r.id id (sym (exact_ids id r.id f.0)), f.1)

there : (b : Bool) (r : Record) → b ≡ true → some_has same_record (cond b (Some r) None) r ≡ true
there true r e = same_record_itself r
there false r e = absurd (true≢false (sym e))

pub to_one_record : (r : Record) → has_record (one_record r) (r.id, r) ≡ true
to_one_record r = there (is_at (id_cmp r.id) r.id) r (id_at r.id r.id ∙ same_id_itself r.id)

-- the look-up of one record alone
pub record_one : (r : Record) (id : RecordId) → record_in (one_record r) id ≡ (if same_id r.id id then Some r else None)
record_one r id =
    same_find _ _
    (λ s h. let f = from_one_record r id s (atom_of_record (one_record r) id s h) in
    cond-true (same_id r.id id) (Some r) None f.0 ∙ ap Some f.1)
    (λ s h. elim (cases_Bool (same_id r.id id)) [
      | inl same ↦
          let e : r ≡ s = some_same r s (sym (cond-true (same_id r.id id) (Some r) None same) ∙ h) in
          subst (λ (x : RecordId). record_in (one_record r) x ≡ Some s) (exact_id r.id id same)
          (record_of_atom (one_record r) r.id s (subst (λ (x : Record). has_record (one_record r) (r.id, x) ≡ true) e (to_one_record r)))
      | inr other ↦ absurd (none_some s (sym (cond-false (same_id r.id id) (Some r) None other) ∙ h))
    ])

-- the look-up in a union
pub record_joined : (a b c : Records) → IsUnion has_record a b c → (id : RecordId) → record_in c id ≡ first_of (record_in a id) (record_in b id)
record_joined a b c u id = by_first (record_in a id) refl
  where
    by_rest : record_in a id ≡ None → (s : Record) → record_in c id ≡ Some s → record_in b id ≡ Some s
    by_rest none s h =
        elim (or_cases (has_record a (id, s)) (has_record b (id, s)) (sym (u (id, s)) ∙ atom_of_record c id s h)) [
          | inl p ↦ absurd (none_some s (sym none ∙ record_of_atom a id s p))
          | inr q ↦ record_of_atom b id s q
        ]

    by_first : (o : Option Record) → record_in a id ≡ o → record_in c id ≡ first_of o (record_in b id)
    by_first (Some s) is = record_of_atom c id s (u (id, s) ∙ or_left _ _ (atom_of_record a id s is))
    by_first None is =
        same_find _ _ (by_rest is)
        (λ s h. record_of_atom c id s (u (id, s) ∙ or_right (has_record a (id, s)) _ (atom_of_record b id s h)))
