-- The next record in the map by name, and the greatest number.
use Rattle.std.specs.Prelude.{◌≡◌, true, false, Option, Some, None, IsSome, IfSome, refl}
use Rattle.std.proofs.Common.{sym, ◌∙◌, ap, subst, inl, inr, arith}
use Rattle.std.proofs.lemmas.Bool.{cases_Bool, true≢false}
use Rattle.std.specs.Map.{lookup}
use Rattle.std.specs.Ordering.{is_lt}
use Rattle.std.specs.BTreeMap.{is_at}
use Rattle.std.specs.BTreeMap.Range.{IsLeBy}
use Rattle.mapdb_join.specs.Keys.{IsAbove}
use Rattle.mapdb_facts.specs.declared.names.RecordId.{RecordId}
use Rattle.mapdb_facts.specs.declared.operations.Op.TheVariants.{Born}
use Rattle.mapdb_facts.specs.declared.operations.Record.{Record}
use Rattle.mapdb_facts.specs.Facts.{state_of_facts}
use Rattle.mapdb_facts.specs.Kept.{Kept, Records, id_cmp, record_in}
use Rattle.mapdb_facts.specs.Looking.{IsFound, IsGreatest}
use Rattle.mapdb_facts.specs.Names.{is_after, is_before}
use Rattle.mapdb_facts.specs.WellFormed.{IsFormedRecord, is_formed}
use Rattle.mapdb_facts.proofs.Lists.Comparing.{before_from, from_before, not_before_from, number_at_most}
use Rattle.mapdb_facts.proofs.States.Formed.{formed_record}
use Rattle.mapdb_facts.proofs.Maps.KeptFacts.{Formed}
use Rattle.mapdb_facts.proofs.Lists.SameNames.{none_some}

is_some_from : {A : Type 0} → (o : Option A) (a : A) → o ≡ Some a → IsSome o
is_some_from o a h = subst (λ x. IsSome x) (sym h) refl

some_value : {A : Type 0} → (o : Option A) → IsSome o → (a : A) × (o ≡ Some a)
some_value None h = absurd (true≢false (sym h))
some_value (Some a) h = (a, refl)

is_above : (after : Option RecordId) (id : RecordId) → is_after after id ≡ true → IsAbove id_cmp after id
is_above None id h = tt
is_above (Some other) id h = from_before other id h

from_above : (after : Option RecordId) (id : RecordId) → IsAbove id_cmp after id → is_after after id ≡ true
from_above None id h = refl
from_above (Some other) id h = before_from other id h

-- the record under the least name above another
pub next_here : (kept : Kept) → Formed kept.records → (after : Option RecordId) (key : RecordId) (r : Record) → IsAbove id_cmp after key → lookup (is_at (id_cmp key)) kept.records ≡ Some r
    → ((q : RecordId) → IsAbove id_cmp after q → IsSome (lookup (is_at (id_cmp q)) kept.records) → IsLeBy id_cmp key q) → IsFound (state_of_facts kept) after (Some r)
next_here kept formed after key r above found least =
    let own : key ≡ r.id = sym (formed key r found).0 in
    record {
      held = subst (λ (x : RecordId). record_in kept.records x ≡ Some r) own found;
      above = subst (λ (x : RecordId). is_after after x ≡ true) own (from_above after key above);
      least = λ s held test.
          subst (λ (x : RecordId). is_before s.id x ≡ false) own
          (not_before_from key s.id (least s.id (is_above after s.id test) (is_some_from _ s held)));
    }

-- what is held under it is the next record
pub next_by : (kept : Kept) → Formed kept.records → (after : Option RecordId) (key : RecordId) (found : Option Record) → IsAbove id_cmp after key → IsSome (record_in kept.records key)
    → ((q : RecordId) → IsAbove id_cmp after q → IsSome (record_in kept.records q) → IsLeBy id_cmp key q) → found ≡ record_in kept.records key → IsFound (state_of_facts kept) after found
next_by kept formed after key found above some least is =
    let one = some_value (record_in kept.records key) some in
    subst (λ o. IsFound (state_of_facts kept) after o) (sym (is ∙ one.1)) (next_here kept formed after key one.0 above one.1 least)

-- no name is above another
pub none_here : (kept : Kept) (after : Option RecordId) → ((q : RecordId) → IsAbove id_cmp after q → lookup (is_at (id_cmp q)) kept.records ≡ None) → IsFound (state_of_facts kept) after None
none_here kept after none = λ s held. elim (cases_Bool (is_after after s.id)) [
  | inl behind ↦ absurd (none_some s (sym (none s.id (is_above after s.id behind)) ∙ held))
  | inr other ↦ other
]

-- the record under a name that is held
pub one_of_name : (records : Records) → Formed records → (key : RecordId) → IsSome (lookup (is_at (id_cmp key)) records) → (r : Record) × (record_in records r.id ≡ Some r) × (is_formed (Born r) ≡ true) × (r.id ≡ key)
one_of_name records formed key some =
    let one = some_value (lookup (is_at (id_cmp key)) records) some in
    let is = formed key one.0 one.1 in
    (one.0, subst (λ (x : RecordId). record_in records x ≡ Some one.0) (sym is.0) one.1, is.1, is.0)

-- the number of the greatest name
pub greatest_here : (kept : Kept) → Formed kept.records → (key : RecordId) → IsSome (lookup (is_at (id_cmp key)) kept.records) → ((q : RecordId) → IsSome (lookup (is_at (id_cmp q)) kept.records) → is_lt (id_cmp key q) ≡ false) → IsGreatest (state_of_facts kept) key.number
greatest_here kept formed key some most = record {
  most = λ r held. number_at_most key r.id (most r.id (is_some_from _ r held));
  held = λ positive. let one = one_of_name kept.records formed key some in (one.0, one.1, ap (λ (x : RecordId). x.number) one.3);
}

-- where none is held it is 0
pub none_greatest : (kept : Kept) → ((id : RecordId) → record_in kept.records id ≡ None) → IsGreatest (state_of_facts kept) 0
none_greatest kept none = record {
  most = λ r held. absurd (none_some r (sym (none r.id) ∙ held));
  held = λ positive. absurd (omega (arith, positive));
}

-- the next record is well-formed
pub formed_found : (kept : Kept) → Formed kept.records → (after : Option RecordId) (found : Option Record) → IsFound (state_of_facts kept) after found → IfSome found IsFormedRecord
formed_found kept formed after None h = tt
formed_found kept formed after (Some r) h = formed_record r (formed r.id r h.held).1
