-- The index keeps up with the facts, or is absent.
use Rattle.std.proofs.Common.{◌≡◌, ◌∙◌, false, true, Some, Result, Ok, inl, inr, subst, sym}
use Rattle.std.specs.Prelude.{None, Option}
use Rattle.std.proofs.lemmas.Bool.{cases_Bool, false≢true}
use Rattle.mapdb_facts.specs.Looking.{Holds}
use Rattle.mapdb_facts.specs.Merging.{IsNamed}
use Rattle.mapdb_facts.specs.Names.{is_root}
use Rattle.mapdb_facts.specs.State.{State}
use Rattle.mapdb_facts.specs.declared.names.RecordId.{RecordId}
use Rattle.mapdb_facts.specs.declared.operations.Record.{Record}
use Rattle.mapdb_rights.specs.Following.{AreListed}
use Rattle.mapdb_rights.specs.Index.{KeepsUp}
use Rattle.mapdb_rights.specs.declared.index.rights_index.RightsIndex.{RightsIndex}
use Rattle.mapdb_replica.proofs.Copies.OpForms.{HasForm, source_is}
use Rattle.mapdb_rights.proofs.Live.LiveRecords.{not_root}

-- an index that has an answer is there
pub answers_there : {A E : Type 0} → (index : RightsIndex) (result : Result (Option A) E) (found : A) → (index.absent ≡ true → result ≡ Ok None)
    → result ≡ Ok (Some found) → index.absent ≡ false
answers_there index result found none is =
    elim (cases_Bool index.absent) [
      | inl absent ↦ absurd (no_answer result found (none absent) is)
      | inr there ↦ there
    ]
  where
    no_answer : {A E : Type 0} → (r : Result (Option A) E) (a : A) → r ≡ Ok None → r ≡ Ok (Some a) → ⊥
    no_answer r a e h = cc

module _ (index : RightsIndex) (S : State) (there : index.absent ≡ false) where
  -- an index that is there has the records that are held
  listed_there : KeepsUp index S → AreListed S index.listed
  listed_there (inl absent) = absurd (false≢true (sym there ∙ absent))
  listed_there (inr is) = is.stands.listed_there

  -- so each stands under its own name
  pub named_there : KeepsUp index S → IsNamed S
  named_there kept = (listed_there kept).named

  -- and has a place, and is well-formed
  pub forms_there : KeepsUp index S → HasForm S
  forms_there kept =
      let listed = listed_there kept in
      let held : ((id : RecordId) (r : Record) → S.record_at id ≡ Some r → Holds S r) =
      λ id r h. subst (λ (x : RecordId). S.record_at x ≡ Some r) (sym (listed.named id r h)) h in
      record {
        no_root = λ id r h. subst (λ (x : RecordId). is_root x ≡ false) (listed.named id r h) (not_root r (listed.formed r (held id r h)));
        places = λ id r h. (listed.sources r (held id r h)).place;
        sources = λ id r h. source_is r (listed.sources r (held id r h)).place (listed.formed r (held id r h));
      }
