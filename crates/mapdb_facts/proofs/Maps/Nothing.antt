-- Maps without atoms say nothing.
use Rattle.std.specs.Prelude.{◌≡◌, ◌↔◌, Bool, true, Option, Some, None, IsTrue, refl}
use Rattle.std.proofs.Common.{sym, ◌∙◌, ap, subst}
use Rattle.std.proofs.lemmas.Bool.{false_from_ne_true, true≢false}
use Rattle.mapdb_join.specs.Atoms.{HasNone}
use Rattle.mapdb_join.specs.Grow.{has_key}
use Rattle.mapdb_facts.specs.declared.operations.Record.{Record}
use Rattle.mapdb_facts.specs.Facts.{state_of_facts}
use Rattle.mapdb_facts.specs.Kept.{Kept, bit_of, has_cut, has_record, record_in, space_cmp}
use Rattle.mapdb_facts.specs.State.{State, nothing}
use Rattle.mapdb_facts.proofs.Maps.Atoms.{same_state}
use Rattle.mapdb_facts.proofs.Maps.KeptFacts.{OfRights}
use Rattle.mapdb_facts.proofs.RecordLemmas.RecordAtoms.{atom_of_record, record_of_atom}
use Rattle.mapdb_facts.proofs.Lists.SameNames.{none_some}

not_some : (o : Option Record) → ((r : Record) → o ≡ Some r → ⊥) → o ≡ None
not_some None h = refl
not_some (Some r) h = absurd (h r refl)

module _ (kept : Kept) where
  pub says_nothing : HasNone has_record kept.records → HasNone has_cut kept.cuts → HasNone (has_key space_cmp) kept.ended → state_of_facts kept ≡ nothing
  says_nothing records taken ends =
      same_state (state_of_facts kept) nothing
      (λ id. not_some (record_in kept.records id) (λ r h. true≢false (sym (atom_of_record kept.records id r h) ∙ records (id, r))))
      (λ id page right. taken (id, (page, bit_of right)))
      ends

  pub no_records : state_of_facts kept ≡ nothing → HasNone has_record kept.records
  no_records same x =
      false_from_ne_true (has_record kept.records x)
      (λ h. none_some x.1 (sym (ap (λ (S : State). S.record_at x.0) same) ∙ record_of_atom kept.records x.0 x.1 h))

  pub no_cuts : OfRights kept.cuts → state_of_facts kept ≡ nothing → HasNone has_cut kept.cuts
  no_cuts rights same x =
      false_from_ne_true (has_cut kept.cuts x)
      (λ h. let right = rights x.0 x.1.0 x.1.1 h in
      true≢false (sym (subst (λ bit. has_cut kept.cuts (x.0, (x.1.0, bit)) ≡ true) (sym right.1) h) ∙ ap (λ (S : State). S.is_cut x.0 x.1.0 right.0) same))

  pub no_ends : state_of_facts kept ≡ nothing → HasNone (has_key space_cmp) kept.ended
  no_ends same space = ap (λ (S : State). S.is_ended space) same

  -- the ends decide, where there are no records and no revocations
  pub ends_decide : (answer : Bool) → HasNone has_record kept.records → HasNone has_cut kept.cuts → IsTrue answer ↔ HasNone (has_key space_cmp) kept.ended → IsTrue answer ↔ (state_of_facts kept ≡ nothing)
  ends_decide answer records taken ends = (λ h. says_nothing records taken (ends.0 h), λ same. ends.1 (no_ends same))
