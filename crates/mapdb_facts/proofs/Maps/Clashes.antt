-- Where maps of records clash, and under which names.
use Rattle.std.specs.Prelude.{◌≡◌, ◌≢◌, Bool, true, false, IfNone, IfSome, Option, Some, None, if◌then◌else◌, refl}
use Rattle.std.proofs.Common.{sym, ◌∙◌, inl, inr}
use Rattle.std.proofs.lemmas.Bool.{cases_Bool}
use Rattle.mapdb_join.specs.Atoms.{Clashes}
use Rattle.mapdb_facts.specs.declared.names.RecordId.{RecordId}
use Rattle.mapdb_facts.specs.declared.operations.Record.{Record}
use Rattle.mapdb_facts.specs.Adding.{other_record, same_record}
use Rattle.mapdb_facts.specs.Exact.{exact_record}
use Rattle.mapdb_facts.specs.Facts.{state_of_facts}
use Rattle.mapdb_facts.specs.HeldRecords.{IsClashAt, excludes_record}
use Rattle.mapdb_facts.specs.Kept.{Kept, has_record}
use Rattle.mapdb_facts.specs.Merging.{DifferAt, IsLeastClash, StatesDoNotClash}
use Rattle.mapdb_facts.specs.Names.{is_before}
use Rattle.mapdb_facts.proofs.Lists.Comparing.{from_before}
use Rattle.mapdb_facts.proofs.RecordLemmas.RecordAtoms.{atom_of_record}

clash_of_differ : (a b : Kept) (id : RecordId) → DifferAt (state_of_facts a) (state_of_facts b) id → Clashes has_record excludes_record a.records b.records
clash_of_differ a b id d = record {
  one = (id, d.one);
  other = (id, d.other);
  has_one = atom_of_record a.records id d.one d.in_first;
  has_other = atom_of_record b.records id d.other d.in_second;
  apart = (refl, d.apart);
}

-- where the maps do not clash, no name has different records
pub agree_where : (a b : Kept) → (Clashes has_record excludes_record a.records b.records → ⊥) → StatesDoNotClash (state_of_facts a) (state_of_facts b)
agree_where a b none id d = none (clash_of_differ a b id d)

apart_values : (r s : Record) → Clashes same_record (λ x y. x ≢ y) r s → r ≢ s
apart_values r s c e = c.apart (sym (exact_record r c.one c.has_one) ∙ e ∙ exact_record s c.other c.has_other)

-- the first clash of the maps is the least name
pub least_clash : (a b : Kept) (id : RecordId) → IsClashAt a.records b.records id → IsLeastClash (state_of_facts a) (state_of_facts b) id
least_clash a b at f = record {
  differ = record {
    one = f.first;
    other = f.second;
    in_first = f.in_first;
    in_second = f.in_second;
    apart = apart_values f.first f.second f.clash;
  };
  least = λ id d. elim (cases_Bool (is_before id at)) [
    | inl first ↦
        absurd (f.least id d.one d.other (from_before id at first) (atom_of_record a.records id d.one d.in_first) (atom_of_record b.records id d.other d.in_second) d.apart)
    | inr later ↦ later
  ];
}

none_id : (id : RecordId) → None ≡ Some id → ⊥
none_id id e = cc

same_if_none : (same : Bool) (id : RecordId) → (if same then None else Some id) ≡ None → same ≡ true
same_if_none true id h = refl
same_if_none false id h = absurd (none_id id (sym h))

-- where no different record of its name is held, it is this one
pub agrees_alone : (o : Option Record) (r : Record) → other_record o r ≡ None → IfSome o (λ held. held ≡ r)
agrees_alone None r agrees = tt
agrees_alone (Some s) r agrees = exact_record s r (same_if_none (same_record s r) r.id agrees)

-- what a name that is told says, and what it says that none is
pub none_told : {P Q : Type 0} (o : Option RecordId) → (P → Q) → IfNone o P → IfNone o Q
none_told None go h = go h
none_told (Some id) go h = h

pub some_told : {P Q : RecordId → Type 0} (o : Option RecordId) → ((id : RecordId) → P id → Q id) → IfSome o P → IfSome o Q
some_told None go h = h
some_told (Some id) go h = go id h
