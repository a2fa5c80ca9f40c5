-- All atoms of one in the other.
use Rattle.std.specs.Prelude.{◌≡◌, ◌↔◌, ℕ, Bool, true, Some, IsTrue}
use Rattle.std.proofs.Common.{sym, subst}
use Rattle.mapdb_join.specs.Atoms.{Includes as HasAll}
use Rattle.mapdb_join.specs.Grow.{has_key}
use Rattle.mapdb_fpage.specs.declared.right_sets.Right.{Right}
use Rattle.mapdb_facts.specs.declared.names.RecordId.{RecordId}
use Rattle.mapdb_facts.specs.declared.operations.Record.{Record}
use Rattle.mapdb_facts.specs.Facts.{state_of_facts}
use Rattle.mapdb_facts.specs.Kept.{Cuts, Kept, bit_of, cut_in, has_cut, has_record, record_in, space_cmp}
use Rattle.mapdb_facts.specs.Merging.{Includes}
use Rattle.mapdb_facts.specs.State.{End, Rec, Rev}
use Rattle.mapdb_facts.proofs.Maps.KeptFacts.{Formed, OfRights}
use Rattle.mapdb_facts.proofs.RecordLemmas.RecordAtoms.{atom_of_record, record_of_atom}

-- all that the one takes is taken by the other
abbrev pub TakesAll : Cuts → Cuts → Type 0
TakesAll mine theirs = (id : RecordId) (page : ℕ) (right : Right) → cut_in theirs id page right ≡ true → cut_in mine id page right ≡ true

pub included_records : (mine theirs : Kept) → Formed theirs.records → Includes (state_of_facts mine) (state_of_facts theirs) → HasAll has_record mine.records theirs.records
included_records mine theirs formed all x h =
    let id : RecordId = x.0 in
    let s : Record = x.1 in
    let at : record_in theirs.records id ≡ Some s = record_of_atom theirs.records id s h in
    let own = (formed id s at).0 in
    atom_of_record mine.records id s (subst (λ y. record_in mine.records y ≡ Some s) own (all (Rec s) (subst (λ y. record_in theirs.records y ≡ Some s) (sym own) at)))

pub included_ends : (mine theirs : Kept) → Includes (state_of_facts mine) (state_of_facts theirs) → HasAll (has_key space_cmp) mine.ended theirs.ended
included_ends mine theirs all space = all (End space)

pub included : (mine theirs : Kept) → HasAll has_record mine.records theirs.records → HasAll (has_key space_cmp) mine.ended theirs.ended → TakesAll mine.cuts theirs.cuts → Includes (state_of_facts mine) (state_of_facts theirs)
included mine theirs records ends taken (Rec s) held = record_of_atom mine.records s.id s (records (s.id, s) (atom_of_record theirs.records s.id s held))
included mine theirs records ends taken (Rev id page right) held = taken id page right held
included mine theirs records ends taken (End space) held = ends space held

-- the revocations decide, where records and ends are included
pub cuts_decide : (mine theirs : Kept) (answer : Bool) → HasAll has_record mine.records theirs.records → HasAll (has_key space_cmp) mine.ended theirs.ended → IsTrue answer ↔ TakesAll mine.cuts theirs.cuts → IsTrue answer ↔ Includes (state_of_facts mine) (state_of_facts theirs)
cuts_decide mine theirs answer records ends taken = (λ h. included mine theirs records ends (taken.0 h), λ all. taken.1 (λ id page right. all (Rev id page right)))

-- where each bit stands for a right, all is taken where each atom is there
pub takes_all : (mine theirs : Cuts) → OfRights theirs → HasAll has_cut mine theirs ↔ TakesAll mine theirs
takes_all mine theirs rights = (
  λ all id page right h. all (id, (page, bit_of right)) h,
  λ all x h. let right = rights x.0 x.1.0 x.1.1 h in
      subst (λ bit. has_cut mine (x.0, (x.1.0, bit)) ≡ true) right.1
      (all x.0 x.1.0 right.0 (subst (λ bit. has_cut theirs (x.0, (x.1.0, bit)) ≡ true) (sym right.1) h)),
)
