-- What a merge leaves of three maps.
use Rattle.std.specs.Prelude.{◌⊎◌, Bool, List}
use Rattle.std.proofs.Common.{sym, ◌∙◌, inl, inr}
use Rattle.std.proofs.lemmas.Bool.{or_cases, or_left}
use Rattle.mapdb_join.specs.Atoms.{IsBetween, IsUnion}
use Rattle.mapdb_join.specs.Faults.{FaultLeaves, TellsMemory}
use Rattle.mapdb_join.specs.Grow.{has_key}
use Rattle.mapdb_join.specs.declared.merge.MergeFault.{MergeFault}
use Rattle.mapdb_join.specs.declared.merge.MergeFault.TheVariants.{Clash, Memory}
use Rattle.mapdb_facts.specs.declared.names.Space.{Space}
use Rattle.mapdb_facts.specs.Facts.{state_of_facts}
use Rattle.mapdb_facts.specs.Kept.{Cuts, IsFacts, Kept, Records, cut_in, ended_in, has_cut, has_record, space_cmp}
use Rattle.mapdb_facts.specs.Merging.{Includes, IsStateBetween}
use Rattle.mapdb_facts.specs.State.{Atom, End, Has, Rec, Rev}
use Rattle.mapdb_facts.proofs.Maps.CutAtoms.{cut_with, cut_within}
use Rattle.mapdb_facts.proofs.Maps.KeptFacts.{formed_within, rights_within}
use Rattle.mapdb_facts.proofs.RecordLemmas.RecordAtoms.{atom_of_record, record_of_atom}

-- a union lies between, and so does what has not changed
pub union_between : {S A : Type 0} (has : S → A → Bool) (a b c : S) → IsUnion has a b c → IsBetween has a b c
union_between has a b c u = record { kept = λ x h. u x ∙ or_left _ _ h; within = λ x h. sym (u x) ∙ h }

pub old_between : {S A : Type 0} (has : S → A → Bool) (a b : S) → IsBetween has a b a
old_between has a b = record { kept = λ x h. h; within = λ x h. or_left _ _ h }

module _ (a b c : Kept) (records : IsBetween has_record a.records b.records c.records) (taken : IsBetween has_cut a.cuts b.cuts c.cuts) (ends : IsBetween (has_key space_cmp) a.ended b.ended c.ended) where
  kept_atom : Includes (state_of_facts c) (state_of_facts a)
  kept_atom (Rec r) h = record_of_atom c.records r.id r (records.kept (r.id, r) (atom_of_record a.records r.id r h))
  kept_atom (Rev id page right) h = cut_with a.cuts c.cuts taken.kept id page right h
  kept_atom (End space) h = ends.kept space h

  within_atom : (atom : Atom) → Has (state_of_facts c) atom → Has (state_of_facts a) atom ⊎ Has (state_of_facts b) atom
  within_atom (Rec r) h =
      elim (or_cases (has_record a.records (r.id, r)) (has_record b.records (r.id, r)) (records.within (r.id, r) (atom_of_record c.records r.id r h))) [
        | inl p ↦ inl (record_of_atom a.records r.id r p)
        | inr q ↦ inr (record_of_atom b.records r.id r q)
      ]
  within_atom (Rev id page right) h = or_cases (cut_in a.cuts id page right) (cut_in b.cuts id page right) (cut_within a.cuts b.cuts c.cuts taken.within id page right h)
  within_atom (End space) h = or_cases (ended_in a.ended space) (ended_in b.ended space) (ends.within space h)

  -- the state of maps that lie between lies between
  pub between_states : IsStateBetween (state_of_facts a) (state_of_facts b) (state_of_facts c)
  between_states = record { kept = kept_atom; within = within_atom }

-- what is true of the maps where the records merged in part
pub kept_in_part : (old other : Kept) (new : Records) → IsFacts old.records old.cuts → IsFacts other.records other.cuts → IsBetween has_record old.records other.records new → IsFacts new old.cuts
kept_in_part old other new one two between = record {
  formed = formed_within old.records other.records new between.within one.formed two.formed;
  rights = one.rights;
}

-- what is true of the maps where the records merged, and the revocations did in part
pub kept_merged : (old other : Kept) (records : Records) (taken : Cuts) → IsFacts old.records old.cuts → IsFacts other.records other.cuts → IsUnion has_record old.records other.records records → IsBetween has_cut old.cuts other.cuts taken → IsFacts records taken
kept_merged old other records taken one two atoms between = record {
  formed = formed_within old.records other.records records (λ x h. sym (atoms x) ∙ h) one.formed two.formed;
  rights = rights_within old.cuts other.cuts taken between.within one.rights two.rights;
}

-- ends never clash
abbrev pub EndFault : List Space → List Space → List Space → MergeFault (Unit {0}) → Type 0
EndFault old other new fault = FaultLeaves (has_key space_cmp) (λ _ _. ⊥) (λ _ _ _. Unit {0}) old other new fault

pub ends_between : (old other new : List Space) (fault : MergeFault (Unit {0})) → EndFault old other new fault → IsBetween (has_key space_cmp) old other new
ends_between old other new (Clash spot) h = absurd h.0.apart
ends_between old other new (Memory refused) h = h.1

-- so what does not merge there is refused memory
pub ends_refused : (old other new : List Space) (fault : MergeFault (Unit {0})) → EndFault old other new fault → TellsMemory fault
ends_refused old other new (Clash spot) h = absurd h.0.apart
ends_refused old other new (Memory refused) h = tt
