-- What is true of the maps stays true of unions.
use Rattle.std.specs.Prelude.{◌≡◌, ◌||◌, ◌<◌, ◌^◌, ℕ, Bool, true, false, Some, refl}
use Rattle.std.proofs.Common.{sym, ◌∙◌, subst, inl, inr, zero, suc, arith}
use Rattle.std.proofs.lemmas.Bool.{cases_lt, eqb-true, or_cases}
use Rattle.std.proofs.lemmas.Nat.Bits.{bit_at_above}
use Rattle.mapdb_fpage.specs.declared.right_sets.Right.{Right}
use Rattle.mapdb_fpage.specs.declared.right_sets.Right.TheVariants.{Execute, Read, Write}
use Rattle.mapdb_fpage.specs.declared.right_sets.Rights.{Rights}
use Rattle.mapdb_fpage.specs.RightSets.{bits_of}
use Rattle.mapdb_join.specs.Atoms.{IsUnion}
use Rattle.mapdb_join.specs.Bits.{has_bit}
use Rattle.mapdb_facts.specs.declared.names.RecordId.{RecordId}
use Rattle.mapdb_facts.specs.declared.operations.Op.TheVariants.{Born}
use Rattle.mapdb_facts.specs.declared.operations.Record.{Record}
use Rattle.mapdb_facts.specs.declared.operations.Revocation.{Revocation}
use Rattle.mapdb_facts.specs.Exact.{exact_id}
use Rattle.mapdb_facts.specs.Kept.{Cuts, IsFacts, Records, bit_of, has_cut, has_record, record_in}
use Rattle.mapdb_facts.specs.WellFormed.{is_formed}
use Rattle.mapdb_facts.specs.HeldRecords.{one_record}
use Rattle.mapdb_facts.proofs.Maps.CutAtoms.{from_one_bit, one_cut}
use Rattle.mapdb_facts.proofs.RecordLemmas.RecordAtoms.{atom_of_record, from_one_record, record_of_atom}

-- each held record is well-formed and stands under its name
abbrev pub Formed : Records → Type 0
Formed records = (id : RecordId) (r : Record) → record_in records id ≡ Some r → (r.id ≡ id) × (is_formed (Born r) ≡ true)

-- each bit stands for a right
abbrev pub OfRights : Cuts → Type 0
OfRights cuts = (id : RecordId) (page bit : ℕ) → has_cut cuts (id, (page, bit)) ≡ true → (right : Right) × (bit_of right ≡ bit)

-- each atom of c is one of a or b
abbrev pub RecordsWithin : Records → Records → Records → Type 0
RecordsWithin a b c = (x : RecordId × Record) → has_record c x ≡ true → (has_record a x || has_record b x) ≡ true

abbrev pub CutsWithin : Cuts → Cuts → Cuts → Type 0
CutsWithin a b c = (x : RecordId × (ℕ × ℕ)) → has_cut c x ≡ true → (has_cut a x || has_cut b x) ≡ true

pub formed_within : (a b c : Records) → RecordsWithin a b c → Formed a → Formed b → Formed c
formed_within a b c within in_a in_b id r h =
    elim (or_cases (has_record a (id, r)) (has_record b (id, r)) (within (id, r) (atom_of_record c id r h))) [
      | inl p ↦ in_a id r (record_of_atom a id r p)
      | inr q ↦ in_b id r (record_of_atom b id r q)
    ]

pub rights_within : (a b c : Cuts) → CutsWithin a b c → OfRights a → OfRights b → OfRights c
rights_within a b c within in_a in_b id page bit h =
    elim (or_cases (has_cut a (id, (page, bit))) (has_cut b (id, (page, bit))) (within (id, (page, bit)) h)) [
      | inl p ↦ in_a id page bit p
      | inr q ↦ in_b id page bit q
    ]

-- one record alone
one_formed : (r : Record) → is_formed (Born r) ≡ true → Formed (one_record r)
one_formed r formed id s h =
    let f = from_one_record r id s (atom_of_record (one_record r) id s h) in
    subst (λ (x : Record). (x.id ≡ id) × (is_formed (Born x) ≡ true)) f.1 (exact_id r.id id f.0, formed)

-- what holds of the maps holds when a record is added
pub kept_record : (old new : Records) (cuts : Cuts) (r : Record) → is_formed (Born r) ≡ true → IsUnion has_record old (one_record r) new → IsFacts old cuts → IsFacts new cuts
kept_record old new cuts r formed atoms kept = record {
  formed = formed_within old (one_record r) new (λ x h. sym (atoms x) ∙ h) kept.formed (one_formed r formed);
  rights = kept.rights;
}

-- the bits of rights stand for rights
pub bit_right : (rights : Rights) (bit : ℕ) → has_bit (bits_of rights) bit ≡ true → (right : Right) × (bit_of right ≡ bit)
bit_right rights bit h = right_at bit (low (bits_of rights) bit (below_eight rights.read rights.write rights.execute) h)
  where
    below_eight : (r w x : Bool) → bits_of (record { read = r; write = w; execute = x }) < 2 ^ 3
    below_eight true true true = omega arith
    below_eight true true false = omega arith
    below_eight true false true = omega arith
    below_eight true false false = omega arith
    below_eight false true true = omega arith
    below_eight false true false = omega arith
    below_eight false false true = omega arith
    below_eight false false false = omega arith

    low : (n i : ℕ) → n < 2 ^ 3 → has_bit n i ≡ true → i < 3
    low n i small h =
        elim (cases_lt i 3) [
          | inl p ↦ p
          | inr p ↦ absurd (let e = sym (bit_at_above n 3 i small p) ∙ eqb-true _ _ h in cc)
        ]

    right_at : (i : ℕ) → i < 3 → (right : Right) × (bit_of right ≡ i)
    right_at zero h = (Execute, refl)
    right_at (suc zero) h = (Write, refl)
    right_at (suc (suc zero)) h = (Read, refl)
    right_at (suc (suc (suc n))) h = absurd (omega arith)

one_rights : (cut : Revocation) → OfRights (one_cut cut)
one_rights cut id page bit h = bit_right cut.rights bit (from_one_bit cut id page bit h)

-- what holds of the maps holds when a revocation is added
pub kept_cut : (records : Records) (old new : Cuts) (cut : Revocation) → IsUnion has_cut old (one_cut cut) new → IsFacts records old → IsFacts records new
kept_cut records old new cut atoms kept = record {
  formed = kept.formed;
  rights = rights_within old (one_cut cut) new (λ x h. sym (atoms x) ∙ h) kept.rights (one_rights cut);
}
