-- The clashes of a batch are those of what it says that is not held.
use Rattle.std.proofs.Common.{◌≡◌, ◌∙◌, ◌<◌, ◌≤◌, ◌+◌, ℕ, Bool, true, false, Some, sym, ap, subst, List, [], ◌∷◌, ◌++◌, length, inl, inr, arith}
use Rattle.std.specs.Prelude.{◌⊎◌, Option, None, count_by, nat_lt, not}
use Rattle.std.specs.List.{filter}
use Rattle.std.proofs.lemmas.Bool.{and_from, and_parts, cases_Bool, cond-false, cond-true, true≢false}
use Rattle.std.proofs.lemmas.Bool.Decides.{nat_tests}
use Rattle.std.proofs.lemmas.List.Sums.{length-filter}
use Rattle.mapdb_facts.specs.Adding.{is_held, is_new, same_record}
use Rattle.mapdb_facts.specs.Exact.{exact_record}
use Rattle.mapdb_facts.specs.Facts.{state_of_facts}
use Rattle.mapdb_facts.specs.State.{Gives, HasAtom, IsSound, Rec, State, state_of}
use Rattle.mapdb_facts.specs.WellFormed.{all_formed, is_formed}
use Rattle.mapdb_facts.specs.declared.holding.Facts.{Facts}
use Rattle.mapdb_facts.specs.declared.names.RecordId.{RecordId}
use Rattle.mapdb_facts.specs.declared.operations.Op.{Op}
use Rattle.mapdb_facts.specs.declared.operations.Op.TheVariants.{Born, Closed, Cut}
use Rattle.mapdb_facts.specs.declared.operations.Record.{Record}
use Rattle.mapdb_facts.proofs.Maps.Atoms.{atom_held}
use Rattle.mapdb_facts.proofs.States.Joins.{atom_append, atom_left, atom_right}
use Rattle.mapdb_replica.specs.Clashing.{ClashesAt}
use Rattle.mapdb_replica.specs.Replica.{most_operations}
use Rattle.mapdb_replica.specs.Taking.{least_clash, too_many}
use Rattle.mapdb_replica.specs.declared.faults.TakeFault.TheVariants.{Full}
use Rattle.mapdb_replica.proofs.News.BatchClashes.{least_clash-is}
use Rattle.mapdb_replica.proofs.News.LeastNames.{least-one, least-same}
use Rattle.mapdb_facts.proofs.States.Newness.{not_not}

-- what is well-formed stays so where some is left out
pub formed-filter : (p : Op → Bool) (ops : List Op) → all_formed ops ≡ true → all_formed (filter p ops) ≡ true
formed-filter p [] h = h
formed-filter p (op ∷ ops) h =
    let parts = and_parts (is_formed op) (all_formed ops) h in
    let rest = formed-filter p ops parts.1 in
    elim (cases_Bool (p op)) [
      | inl passes ↦
          subst (λ (xs : List Op). all_formed xs ≡ true) (sym (cond-true (p op) (op ∷ filter p ops) (filter p ops) passes))
          (and_from (is_formed op) (all_formed (filter p ops)) parts.0 rest)
      | inr fails ↦ subst (λ (xs : List Op). all_formed xs ≡ true) (sym (cond-false (p op) (op ∷ filter p ops) (filter p ops) fails)) rest
    ]

-- a record of those that pass is one of all
passed_is_there : (p : Op → Bool) (ops : List Op) (r : Record) → HasAtom (filter p ops) (Rec r) → HasAtom ops (Rec r)
passed_is_there p [] r h = h
passed_is_there p (op ∷ ops) r h =
    elim (cases_Bool (p op)) [
      | inl passes ↦
          elim (subst (λ (xs : List Op). HasAtom xs (Rec r)) (cond-true (p op) (op ∷ filter p ops) (filter p ops) passes) h)
          [ inl here ↦ inl here | inr later ↦ inr (passed_is_there p ops r later) ]
      | inr fails ↦
          inr (passed_is_there p ops r (subst (λ (xs : List Op). HasAtom xs (Rec r)) (cond-false (p op) (op ∷ filter p ops) (filter p ops) fails) h))
    ]

-- what passes stays where one more is looked at
passed_later : (p : Op → Bool) (op : Op) (ops : List Op) (r : Record) → HasAtom (filter p ops) (Rec r) → HasAtom (filter p (op ∷ ops)) (Rec r)
passed_later p op ops r h =
    elim (cases_Bool (p op)) [
      | inl passes ↦ subst (λ (xs : List Op). HasAtom xs (Rec r)) (sym (cond-true (p op) (op ∷ filter p ops) (filter p ops) passes)) (inr h)
      | inr fails ↦ subst (λ (xs : List Op). HasAtom xs (Rec r)) (sym (cond-false (p op) (op ∷ filter p ops) (filter p ops) fails)) h
    ]

held_is : (o : Option Record) (r : Record) → not (is_held o r) ≡ false → o ≡ Some r
held_is None r h = absurd (true≢false h)
held_is (Some s) r h = ap Some (exact_record s r (not_not (same_record s r) h))

-- a record that says nothing that is not held, is held
old_is_held : (S : State) (op : Op) (r : Record) → Gives op (Rec r) → is_new S op ≡ false → S.record_at r.id ≡ Some r
old_is_held S (Born s) r gives old =
    subst (λ (x : Record). S.record_at x.id ≡ Some x) gives (held_is (S.record_at s.id) s old)
old_is_held S (Cut cut) r gives old = absurd gives
old_is_held S (Closed space) r gives old = absurd gives

-- a record of the batch is held, or stands among what is not held
unheld_or_held : (S : State) (ops : List Op) (r : Record) → HasAtom ops (Rec r)
    → HasAtom (filter (is_new S) ops) (Rec r) ⊎ (S.record_at r.id ≡ Some r)
unheld_or_held S [] r h = absurd h
unheld_or_held S (op ∷ ops) r (inl here) =
    elim (cases_Bool (is_new S op)) [
      | inl new ↦
          inl (subst (λ (xs : List Op). HasAtom xs (Rec r)) (sym (cond-true (is_new S op) (op ∷ filter (is_new S) ops) (filter (is_new S) ops) new)) (inl here))
      | inr old ↦ inr (old_is_held S op r here old)
    ]
unheld_or_held S (op ∷ ops) r (inr later) =
    elim (unheld_or_held S ops r later) [
      | inl passes ↦ inl (passed_later (is_new S) op ops r passes)
      | inr held ↦ inr held
    ]

unheld_among : (held batch : List Op) (r : Record) → HasAtom (held ++ batch) (Rec r)
    → HasAtom (held ++ filter (is_new (state_of held)) batch) (Rec r)
unheld_among held batch r h =
    let rest = filter (is_new (state_of held)) batch in
    elim (atom_append held batch (Rec r) h) [
      | inl old ↦ atom_left held rest (Rec r) old
      | inr there ↦
          elim (unheld_or_held (state_of held) batch r there) [
            | inl new ↦ atom_right held rest (Rec r) new
            | inr is_held ↦ atom_left held rest (Rec r) (atom_held held (Rec r) is_held)
          ]
    ]

-- where the one record is held, the other one is not
clash_with_held : (held batch : List Op) (id : RecordId) → IsSound held → (d : ClashesAt (held ++ batch) batch id) → HasAtom held (Rec d.one)
    → ClashesAt (held ++ filter (is_new (state_of held)) batch) (filter (is_new (state_of held)) batch) id
clash_with_held held batch id sound d is_held =
    let rest = filter (is_new (state_of held)) batch in
    let names : d.one.id ≡ d.other.id = d.one_named ∙ sym d.other_named in
    elim (atom_append held batch (Rec d.other) d.in_all) [
      | inl old ↦ absurd (d.apart (sound d.one d.other is_held old names))
      | inr there ↦
          elim (unheld_or_held (state_of held) batch d.other there) [
            | inl new ↦
                record {
                  one = d.other;
                  other = d.one;
                  in_batch = new;
                  in_all = atom_left held rest (Rec d.one) is_held;
                  one_named = d.other_named;
                  other_named = d.one_named;
                  apart = λ e. d.apart (sym e);
                }
            | inr old ↦ absurd (d.apart (sound d.one d.other is_held (atom_held held (Rec d.other) old) names))
          ]
    ]

clashes_unheld : (held batch : List Op) (id : RecordId) → IsSound held → ClashesAt (held ++ batch) batch id
    → ClashesAt (held ++ filter (is_new (state_of held)) batch) (filter (is_new (state_of held)) batch) id
clashes_unheld held batch id sound d =
    elim (unheld_or_held (state_of held) batch d.one d.in_batch) [
      | inl new ↦
          record {
            one = d.one;
            other = d.other;
            in_batch = new;
            in_all = unheld_among held batch d.other d.in_all;
            one_named = d.one_named;
            other_named = d.other_named;
            apart = d.apart;
          }
      | inr old ↦ clash_with_held held batch id sound d (atom_held held (Rec d.one) old)
    ]

unheld_clashes : (held batch : List Op) (id : RecordId)
    → ClashesAt (held ++ filter (is_new (state_of held)) batch) (filter (is_new (state_of held)) batch) id → ClashesAt (held ++ batch) batch id
unheld_clashes held batch id d =
    record {
      one = d.one;
      other = d.other;
      in_batch = passed_is_there (is_new (state_of held)) batch d.one d.in_batch;
      in_all =
          elim (atom_append held (filter (is_new (state_of held)) batch) (Rec d.other) d.in_all) [
            | inl old ↦ atom_left held batch (Rec d.other) old
            | inr new ↦ atom_right held batch (Rec d.other) (passed_is_there (is_new (state_of held)) batch d.other new)
          ];
      one_named = d.one_named;
      other_named = d.other_named;
      apart = d.apart;
    }

-- the least clash of a batch is that of what it says that is not held
pub least_clash-unheld : (held batch : List Op) → IsSound held
    → least_clash held (filter (is_new (state_of held)) batch) ≡ least_clash held batch
least_clash-unheld held batch sound =
    let rest = filter (is_new (state_of held)) batch in
    least-one (ClashesAt (held ++ batch) batch) (least_clash held rest) (least_clash held batch)
    (least-same (ClashesAt (held ++ rest) rest) (ClashesAt (held ++ batch) batch) (least_clash held rest)
    (λ id. (unheld_clashes held batch id, clashes_unheld held batch id sound)) (least_clash-is held rest))
    (least_clash-is held batch)

-- The clash that is found among what is not held, and how many that are.
module _ (held batch unheld : List Op) (is : unheld ≡ filter (is_new (state_of held)) batch) where
  pub clash_of_batch : (facts : Facts) (clash : Option RecordId) → IsSound held → state_of_facts facts ≡ state_of held
      → ((ops : List Op) → IsSound ops → state_of_facts facts ≡ state_of ops → clash ≡ least_clash ops unheld)
      → clash ≡ least_clash held batch
  clash_of_batch facts clash sound said found =
      found held sound said ∙ ap (λ (ops : List Op). least_clash held ops) is ∙ least_clash-unheld held batch sound

  pub count_of_batch : length unheld ≡ count_by (is_new (state_of held)) batch
  count_of_batch = ap (λ (ops : List Op). length ops) is ∙ length-filter (is_new (state_of held)) batch

-- with so many that are not held there are too many, or not
pub too_many_where : (held batch : List Op) (count : ℕ) → count ≡ count_by (is_new (state_of held)) batch
    → (most_operations < length held + count → too_many held batch ≡ Some Full)
    × (length held + count ≤ most_operations → too_many held batch ≡ None)
too_many_where held batch count is = (
  λ many. cond-true (nat_lt most_operations (length held + count_by (is_new (state_of held)) batch)) (Some Full) None
      (above (length held + count_by (is_new (state_of held)) batch) (subst (λ (n : ℕ). most_operations < length held + n) is many)),
  λ few. cond-false (nat_lt most_operations (length held + count_by (is_new (state_of held)) batch)) (Some Full) None
      (not_above (length held + count_by (is_new (state_of held)) batch) (subst (λ (n : ℕ). length held + n ≤ most_operations) is few)),
)
  where
    above : (n : ℕ) → most_operations < n → nat_lt most_operations n ≡ true
    above n h = grind (arith, nat_tests)

    not_above : (n : ℕ) → n ≤ most_operations → nat_lt most_operations n ≡ false
    not_above n h = grind (arith, nat_tests)
