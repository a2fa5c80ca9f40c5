-- The names under which a batch has records that differ from others.
use Rattle.std.proofs.Common.{◌≡◌, Bool, true, false, Some, refl, sym, ap, subst, ◌∙◌, List, [], ◌∷◌, ◌++◌, inl, inr}
use Rattle.std.specs.Prelude.{◌≢◌, ◌⊎◌, ◌↔◌, Option, None, not, if◌then◌else◌}
use Rattle.std.specs.List.{cons_option, filter_map, list_any}
use Rattle.std.proofs.lemmas.Bool.{and_from, and_parts, cases_Bool, cond-true, false≢true, not-true, or_cases, or_left, or_right, true≢false}
use Rattle.mapdb_facts.specs.Adding.{same_record}
use Rattle.mapdb_facts.specs.Exact.{exact_id, exact_record}
use Rattle.mapdb_facts.specs.Names.{same_id}
use Rattle.mapdb_facts.specs.Records.{IsAmong}
use Rattle.mapdb_facts.specs.State.{Gives, HasAtom, Rec}
use Rattle.mapdb_facts.specs.declared.names.RecordId.{RecordId}
use Rattle.mapdb_facts.specs.declared.operations.Op.{Op}
use Rattle.mapdb_facts.specs.declared.operations.Op.TheVariants.{Born, Closed, Cut}
use Rattle.mapdb_facts.specs.declared.operations.Record.{Record}
use Rattle.mapdb_facts.proofs.Lists.SameNames.{same_id_at}
use Rattle.mapdb_facts.proofs.RecordLemmas.SameRecords.{same_record_itself}
use Rattle.mapdb_replica.specs.Clashing.{ClashesAt, IsLeastPassing}
use Rattle.mapdb_replica.specs.Taking.{clash_among, is_other, least_clash}
use Rattle.mapdb_replica.proofs.News.LeastNames.{least-listed, least-same}

pub apart_false : (r s : Record) → r ≢ s → same_record r s ≡ false
apart_false r s apart = elim (cases_Bool (same_record r s)) [ inl same ↦ absurd (apart (exact_record r s same)) | inr other ↦ other ]

pub false_apart : (r s : Record) → same_record r s ≡ false → r ≢ s
false_apart r s other e = true≢false (sym (subst (λ (x : Record). same_record r x ≡ true) e (same_record_itself r)) ∙ other)

pub some_name : (a b : RecordId) → Some a ≡ Some b → a ≡ b
some_name a b e = cc

pub none_name : (a : RecordId) → None ≡ Some a → ⊥
none_name a e = cc

-- a record that differs from another of its name
abbrev pub Differs : Record → Record → Type 0
Differs r s = (s.id ≡ r.id) × (r ≢ s)

other_to : (r : Record) (ops : List Op) → list_any (is_other r) ops ≡ true → (s : Record) × HasAtom ops (Rec s) × Differs r s
other_to r [] h = absurd (false≢true h)
other_to r (Born s ∷ ops) h =
    elim (or_cases (is_other r (Born s)) (list_any (is_other r) ops) h) [
      | inl here ↦
          let parts = and_parts (same_id s.id r.id) (not (same_record s r)) here in
          (s, inl refl, (exact_id s.id r.id parts.0, λ e. false_apart s r (not-true (same_record s r) parts.1) (sym e)))
      | inr later ↦ let found = other_to r ops later in (found.0, inr found.1, found.2)
    ]
other_to r (Cut cut ∷ ops) h = let found = other_to r ops h in (found.0, inr found.1, found.2)
other_to r (Closed space ∷ ops) h = let found = other_to r ops h in (found.0, inr found.1, found.2)

other_from : (r s : Record) (ops : List Op) → HasAtom ops (Rec s) → Differs r s → list_any (is_other r) ops ≡ true
other_from r s [] k d = absurd k
other_from r s (Born t ∷ ops) (inl here) d =
    or_left (is_other r (Born t)) (list_any (is_other r) ops)
    (and_from (same_id t.id r.id) (not (same_record t r)) (same_id_at t.id r.id (ap (λ (x : Record). x.id) here ∙ d.0)) (ap not (apart_false t r (λ e. d.1 (sym e ∙ here)))))
other_from r s (Born t ∷ ops) (inr later) d = or_right (is_other r (Born t)) (list_any (is_other r) ops) (other_from r s ops later d)
other_from r s (Cut cut ∷ ops) (inl here) d = absurd here
other_from r s (Cut cut ∷ ops) (inr later) d = other_from r s ops later d
other_from r s (Closed space ∷ ops) (inl here) d = absurd here
other_from r s (Closed space ∷ ops) (inr later) d = other_from r s ops later d

named_where : (b : Bool) (a id : RecordId) → (if b then Some a else None) ≡ Some id → (b ≡ true) × (a ≡ id)
named_where true a id h = (refl, some_name a id h)
named_where false a id h = absurd (none_name id h)

-- the clash of one operation among others
clash_among_to : (all : List Op) (op : Op) (id : RecordId) → clash_among all op ≡ Some id → ClashesAt all (op ∷ []) id
clash_among_to all (Born r) id h =
    let is = named_where (list_any (is_other r) all) r.id id h in
    let found = other_to r all is.0 in
    record { one = r; other = found.0; in_batch = inl refl; in_all = found.1; one_named = is.1; other_named = found.2.0 ∙ is.1; apart = found.2.1 }
clash_among_to all (Cut cut) id h = absurd (none_name id h)
clash_among_to all (Closed space) id h = absurd (none_name id h)

clash_among_from : (all : List Op) (op : Op) (r s : Record) → Gives op (Rec r) → HasAtom all (Rec s) → Differs r s → clash_among all op ≡ Some r.id
clash_among_from all (Born t) r s gives k d =
    subst (λ (x : Record). clash_among all (Born x) ≡ Some r.id) (sym gives) (cond-true (list_any (is_other r) all) (Some r.id) None (other_from r s all k d))
clash_among_from all (Cut cut) r s gives k d = absurd gives
clash_among_from all (Closed space) r s gives k d = absurd gives

-- one of a list that begins with what may be there
among_option : (o : Option RecordId) (ids : List RecordId) (id : RecordId) → IsAmong id (cons_option o ids) ↔ ((o ≡ Some id) ⊎ IsAmong id ids)
among_option None ids id = (λ k. inr k, λ k. elim k [ inl e ↦ absurd (none_name id e) | inr later ↦ later ])
among_option (Some a) ids id = (
  λ k. elim k [ inl e ↦ inl (ap Some e) | inr later ↦ inr later ],
  λ k. elim k [ inl e ↦ inl (some_name a id e) | inr later ↦ inr later ],
)

clash_here : (all : List Op) (op : Op) (ops : List Op) (id : RecordId) → ClashesAt all (op ∷ []) id → ClashesAt all (op ∷ ops) id
clash_here all op ops id d = record {
  one = d.one;
  other = d.other;
  in_batch = elim d.in_batch [ inl here ↦ inl here | inr none ↦ absurd none ];
  in_all = d.in_all;
  one_named = d.one_named;
  other_named = d.other_named;
  apart = d.apart;
}

clash_later : (all : List Op) (op : Op) (ops : List Op) (id : RecordId) → ClashesAt all ops id → ClashesAt all (op ∷ ops) id
clash_later all op ops id d = record {
  one = d.one;
  other = d.other;
  in_batch = inr d.in_batch;
  in_all = d.in_all;
  one_named = d.one_named;
  other_named = d.other_named;
  apart = d.apart;
}

among_clashes : (all batch : List Op) (id : RecordId) → IsAmong id (filter_map (clash_among all) batch) ↔ ClashesAt all batch id
among_clashes all [] id = (λ k. absurd k, λ d. absurd d.in_batch)
among_clashes all (op ∷ ops) id = (
  λ k. elim ((among_option (clash_among all op) (filter_map (clash_among all) ops) id).0 k) [
    | inl here ↦ clash_here all op ops id (clash_among_to all op id here)
    | inr later ↦ clash_later all op ops id ((among_clashes all ops id).0 later)
  ],
  λ d. (among_option (clash_among all op) (filter_map (clash_among all) ops) id).1
      (elim d.in_batch [
        | inl here ↦ inl (clash_among_from all op d.one d.other here d.in_all (d.other_named ∙ sym d.one_named, d.apart) ∙ ap Some d.one_named)
        | inr later ↦ inr ((among_clashes all ops id).1 (record { one = d.one; other = d.other; in_batch = later; in_all = d.in_all; one_named = d.one_named; other_named = d.other_named; apart = d.apart }))
      ]),
)

-- the definition gives the least of these names
pub least_clash-is : (held batch : List Op) → IsLeastPassing (ClashesAt (held ++ batch) batch) (least_clash held batch)
least_clash-is held batch =
    least-same (λ id. IsAmong id (filter_map (clash_among (held ++ batch)) batch)) (ClashesAt (held ++ batch) batch) (least_clash held batch)
    (among_clashes (held ++ batch) batch) (least-listed (filter_map (clash_among (held ++ batch)) batch))
