-- The join of states that agree is the union of their atoms.
use Rattle.std.specs.Prelude.{◌≡◌, ◌⊎◌, ◌↔◌, Option, Some, None, refl}
use Rattle.std.proofs.Common.{sym, ◌∙◌, ap, subst, inl, inr}
use Rattle.std.proofs.lemmas.Bool.{or_cases, or_left, or_right}
use Rattle.mapdb_facts.specs.declared.names.RecordId.{RecordId}
use Rattle.mapdb_facts.specs.declared.operations.Record.{Record}
use Rattle.mapdb_facts.specs.Merging.{Includes, IsNamed, StatesDoNotClash}
use Rattle.mapdb_facts.specs.State.{Atom, End, Has, Rec, Rev, State, first_of, join}
use Rattle.mapdb_facts.proofs.Maps.Atoms.{first_of_cases}
use Rattle.mapdb_facts.proofs.Lists.SameNames.{some_same}
use Rattle.mapdb_facts.proofs.RecordLemmas.SameRecords.{same_or_other}

to_either : (S T : State) (atom : Atom) → Has (join S T) atom → Has S atom ⊎ Has T atom
to_either S T (Rec r) h = first_of_cases (S.record_at r.id) (T.record_at r.id) r h
to_either S T (Rev id page right) h = or_cases (S.is_cut id page right) (T.is_cut id page right) h
to_either S T (End space) h = or_cases (S.is_ended space) (T.is_ended space) h

pub from_first : (S T : State) (atom : Atom) → Has S atom → Has (join S T) atom
from_first S T (Rec r) h = ap (λ (o : Option Record). first_of o (T.record_at r.id)) h
from_first S T (Rev id page right) h = or_left _ _ h
from_first S T (End space) h = or_left _ _ h

from_second : (S T : State) → StatesDoNotClash S T → (atom : Atom) → Has T atom → Has (join S T) atom
from_second S T agree (Rec r) h = by (S.record_at r.id) refl
  where
    by : (o : Option Record) → S.record_at r.id ≡ o → first_of o (T.record_at r.id) ≡ Some r
    by None e = h
    by (Some s) e =
        elim (same_or_other s r) [
          | inl same ↦ ap Some same
          | inr apart ↦ absurd (agree r.id (record { one = s; other = r; in_first = e; in_second = h; apart = apart }))
        ]
from_second S T agree (Rev id page right) h = or_right (S.is_cut id page right) _ h
from_second S T agree (End space) h = or_right (S.is_ended space) _ h

pub join_is_union : (S T : State) → StatesDoNotClash S T → (atom : Atom) → Has (join S T) atom ↔ (Has S atom ⊎ Has T atom)
join_is_union S T agree atom = (to_either S T atom, λ h. elim h [ inl p ↦ from_first S T atom p | inr q ↦ from_second S T agree atom q ])

pub bounded_agree : (S T U : State) → IsNamed S → IsNamed T → Includes U S → Includes U T → StatesDoNotClash S T
bounded_agree S T U named_S named_T first second id d =
    let one = named_S id d.one d.in_first in
    let other = named_T id d.other d.in_second in
    let in_one = subst (λ (x : RecordId). U.record_at x ≡ Some d.one) one (first (Rec d.one) (subst (λ (x : RecordId). S.record_at x ≡ Some d.one) (sym one) d.in_first)) in
    let in_other = subst (λ (x : RecordId). U.record_at x ≡ Some d.other) other (second (Rec d.other) (subst (λ (x : RecordId). T.record_at x ≡ Some d.other) (sym other) d.in_second)) in
    d.apart (some_same d.one d.other (sym in_one ∙ in_other))
