-- Maps with the same atoms say the same.
use Rattle.std.specs.Prelude.{◌≡◌, ℕ}
use Rattle.std.proofs.Common.{sym, ◌∙◌}
use Rattle.std.specs.Cmp.{both_ways}
use Rattle.mapdb_fpage.specs.declared.right_sets.Right.{Right}
use Rattle.mapdb_join.specs.Atoms.{IsSame}
use Rattle.mapdb_join.specs.Grow.{has_key}
use Rattle.mapdb_facts.specs.declared.names.RecordId.{RecordId}
use Rattle.mapdb_facts.specs.Facts.{records_of_facts, state_of_facts}
use Rattle.mapdb_facts.specs.Kept.{Cuts, IsFacts, Kept, Records, cut_in, has_cut, has_record, record_in, space_cmp}
use Rattle.mapdb_facts.proofs.Maps.Atoms.{same_find, same_state}
use Rattle.mapdb_facts.proofs.Maps.CutAtoms.{cut_with}
use Rattle.mapdb_facts.proofs.RecordLemmas.Listed.{same_records}
use Rattle.mapdb_facts.proofs.RecordLemmas.RecordAtoms.{atom_of_record, record_of_atom}

record_same : (a b : Records) → IsSame has_record a b → (id : RecordId) → record_in b id ≡ record_in a id
record_same a b same id =
    same_find _ _
    (λ r h. record_of_atom a id r (same (id, r) ∙ atom_of_record b id r h))
    (λ r h. record_of_atom b id r (sym (same (id, r)) ∙ atom_of_record a id r h))

cut_same : (a b : Cuts) → IsSame has_cut a b → (id : RecordId) (page : ℕ) (right : Right) → cut_in b id page right ≡ cut_in a id page right
cut_same a b same id page right =
    both_ways _ _ (cut_with b a (λ x h. same x ∙ h) id page right) (cut_with a b (λ x h. sym (same x) ∙ h) id page right)

module _ (a b : Kept) (records : IsSame has_record a.records b.records) (taken : IsSame has_cut a.cuts b.cuts) where
  pub copied_state : IsSame (has_key space_cmp) a.ended b.ended → state_of_facts b ≡ state_of_facts a
  copied_state ends = same_state (state_of_facts b) (state_of_facts a) (record_same a.records b.records records) (cut_same a.cuts b.cuts taken) (λ space. sym (ends space))

  pub copied_facts : IsFacts a.records a.cuts → IsFacts b.records b.cuts
  copied_facts is = record {
    formed = λ id r h. is.formed id r (sym (record_same a.records b.records records id) ∙ h);
    rights = λ id page bit h. is.rights id page bit (taken (id, (page, bit)) ∙ h);
  }

-- and list the same records
pub copied_records : (a b : Kept) → IsFacts a.records a.cuts → state_of_facts b ≡ state_of_facts a → records_of_facts b ≡ records_of_facts a
copied_records a b is same = sym (same_records a b (λ id r h. (is.formed id r h).0) (sym same))
