-- What the state of well-formed operations has.
use Rattle.std.proofs.Common.{◌≡◌, true, false, Some, subst, List, [], ◌∷◌, inl, inr}
use Rattle.std.specs.Prelude.{◌⊎◌}
use Rattle.std.proofs.lemmas.Bool.{and_parts}
use Rattle.mapdb_fpage.proofs.Aligned.{order_fits}
use Rattle.mapdb_fpage.specs.Place.{IsPlace}
use Rattle.mapdb_facts.proofs.Maps.Atoms.{record_held}
use Rattle.mapdb_facts.proofs.States.Formed.{formed_record}
use Rattle.mapdb_facts.specs.Names.{is_root}
use Rattle.mapdb_facts.specs.State.{HasAtom, Rec, State, state_of}
use Rattle.mapdb_facts.specs.WellFormed.{IsFormedRecord, all_formed, is_formed}
use Rattle.mapdb_facts.specs.declared.names.RecordId.{RecordId}
use Rattle.mapdb_facts.specs.declared.operations.Op.{Op}
use Rattle.mapdb_facts.specs.declared.operations.Op.TheVariants.{Born, Closed, Cut}
use Rattle.mapdb_facts.specs.declared.operations.Record.{Record}
use Rattle.mapdb_rights.specs.Meeting.{source_place}
use Rattle.mapdb_replica.specs.Forms.{HavePlaces}
use Rattle.mapdb_rights.proofs.Live.LiveRecords.{not_root}

-- what every list of well-formed operations has
pub record HasForm (S : State) : Type 0 where
  pub no_root : (id : RecordId) (r : Record) → S.record_at id ≡ Some r → is_root id ≡ false
  pub places : (id : RecordId) (r : Record) → S.record_at id ≡ Some r → IsPlace r.place
  pub sources : (id : RecordId) (r : Record) → S.record_at id ≡ Some r → IsPlace (source_place r)

abbrev pub IsFormed : List Op → Type 0
IsFormed ops = HasForm (state_of ops)

-- the name is the root's or that of a record that is held
abbrev pub IsKnown : State → RecordId → Type 0
IsKnown S id = (is_root id ≡ true) ⊎ ((r : Record) × (S.record_at id ≡ Some r))

-- each record of well-formed operations is well-formed
pub record_formed : (ops : List Op) (r : Record) → all_formed ops ≡ true → HasAtom ops (Rec r) → is_formed (Born r) ≡ true
record_formed [] r all h = absurd h
record_formed (Born s ∷ ops) r all (inl same) = subst (λ (x : Record). is_formed (Born x) ≡ true) same
    (and_parts (is_formed (Born s)) (all_formed ops) all).0
record_formed (Born s ∷ ops) r all (inr later) = record_formed ops r (and_parts (is_formed (Born s)) (all_formed ops) all).1 later
record_formed (Cut cut ∷ ops) r all (inl h) = absurd h
record_formed (Cut cut ∷ ops) r all (inr later) = record_formed ops r (and_parts (is_formed (Cut cut)) (all_formed ops) all).1 later
record_formed (Closed space ∷ ops) r all (inl h) = absurd h
record_formed (Closed space ∷ ops) r all (inr later) = record_formed ops r (and_parts (is_formed (Closed space)) (all_formed ops) all).1 later

-- the source of a well-formed record is a place as its own one is
pub source_is : (r : Record) → IsPlace r.place → IsFormedRecord r → IsPlace (source_place r)
source_is r place formed = record {
  at_least_a_page = place.at_least_a_page;
  at_most_all = place.at_most_all;
  aligned = formed.aligned;
  in_space = order_fits r.place.order r.source place.at_most_all formed.aligned formed.in_space;
}

pub formed_has_form : (ops : List Op) → all_formed ops ≡ true → HavePlaces ops → IsFormed ops
formed_has_form ops all places = record {
  no_root = λ id r h. (let held = record_held ops id r h in
      subst (λ (x : RecordId). is_root x ≡ false) held.1 (not_root r (formed_record r (record_formed ops r all held.0))));
  places = λ id r h. places r (record_held ops id r h).0;
  sources = λ id r h. (let held = record_held ops id r h in
      source_is r (places r held.0) (formed_record r (record_formed ops r all held.0)));
}
