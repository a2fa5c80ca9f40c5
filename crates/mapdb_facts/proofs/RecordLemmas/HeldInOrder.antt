-- Records by name: the greatest name, the next one, and where two hold different records.
use Rattle.std.specs.Prelude.{◌≡◌, ◌≢◌, ◌↔◌, ◌⊎◌, ◌||◌, Bool, true, false, cond, not, List, [], ◌∷◌, map, Option, Some, None, IfNone, IfSome, IsSome, IsTrue, MatchOption, refl}
use Rattle.std.proofs.Common.{sym, ◌∙◌, ap, subst, inl, inr, Bor}
use Rattle.std.specs.Option.{is_some, option_copied}
use Rattle.std.specs.Ordering.{is_lt}
use Rattle.std.specs.BTreeMap.{is_at}
use Rattle.std.specs.BTreeMap.Range.{IsLeBy}
use Rattle.std.specs.List.{list_any}
use Rattle.std.specs.Map.{lookup}
use Rattle.std.proofs.lemmas.Bool.{or_cases, true≢false, false≢true}
use Rattle.mapdb_join.specs.Atoms.{Clashes, HasNone, Includes, IsExclusion, IsUnion}
use Rattle.mapdb_join.specs.Entries.{some_has}
use Rattle.mapdb_join.proofs.Changes.{union_at, union_new}
use Rattle.mapdb_join.specs.Keys.{IsAbove}
use Rattle.mapdb_join.proofs.Walking.{Covered, covered_next, entry_in}
use Rattle.mapdb_facts.specs.declared.names.RecordId.{RecordId}
use Rattle.mapdb_facts.specs.declared.operations.Record.{Record}
use Rattle.mapdb_facts.specs.Adding.{same_record}
use Rattle.mapdb_facts.specs.Exact.{exact_record}
use Rattle.mapdb_facts.specs.HeldRecords.{HoldsAnother, IsClashAt, IsGreatestName, excludes_record, one_record}
use Rattle.mapdb_facts.specs.ByName.{with_value}
use Rattle.mapdb_facts.specs.Kept.{Records, has_record, id_cmp, record_in}
use Rattle.mapdb_facts.specs.NamedValues.{IsInserted, NamedValues}
use Rattle.mapdb_facts.specs.Names.{same_id}
use Rattle.mapdb_facts.proofs.Lists.Comparing.{exact_ids, id_at}
use Rattle.mapdb_facts.proofs.Lists.SameNames.{same_id_itself, some_same}
use Rattle.mapdb_facts.proofs.NameLemmas.NextNames.{le_not_less, le_through, not_less_through}
use Rattle.mapdb_facts.proofs.NameLemmas.NamesInOrder.{changed_from, found_by, id_total, one_lookup}
use Rattle.mapdb_facts.proofs.RecordLemmas.RecordAtoms.{atom_of_record, record_of_atom}
use Rattle.mapdb_facts.proofs.RecordLemmas.SameRecords.{same_or_other, same_record_itself}

-- ---- one record more

-- the record that was put stands there, and each other one where it stood
module _ (old new : NamedValues Record) (id : RecordId) (r : Record) (put : IsInserted old id r new) where
  put_at : (q : RecordId) → record_in new.entries q ≡ cond (is_at (id_cmp id) q) (Some r) (record_in old.entries q)
  put_at q =
      one_lookup new.entries q ∙ put q
      ∙ ap (λ b. cond b (Some r) (lookup (same_id q) old.entries)) (sym (id_at id q))
      ∙ ap (λ o. cond (is_at (id_cmp id) q) (Some r) o) (sym (one_lookup old.entries q))

  -- the greater of the greatest name and the new one is the greatest
  pub put_greatest : (last : Option RecordId) (later : RecordId) → IsGreatestName old.entries last
      → IfSome last (λ other. is_lt (id_cmp later other) ≡ false) → is_lt (id_cmp later id) ≡ false → (later ≡ id) ⊎ (last ≡ Some later) → IsGreatestName new.entries (Some later)
  put_greatest last later was one other either = record {
    held = sub_some (put_at later) (elim either [
      | inl new ↦ ap (λ q. is_some (cond (is_at (id_cmp id) q) (Some r) (record_in old.entries q))) new ∙ ap (λ b. is_some (cond b (Some r) (record_in old.entries id))) (id_at id id ∙ same_id_itself id)
      | inr before ↦ some_either (is_at (id_cmp id) later) (record_in old.entries later) (subst (λ o. IfSome o (λ q. IsSome (record_in old.entries q))) before was.held)
    ]);
    some = λ q h. refl;
    greatest = λ q h. by q (is_at (id_cmp id) q) refl (sub_some (sym (put_at q)) h);
  }
    where
      sub_some : {o p : Option Record} → o ≡ p → IsSome p → IsSome o
      sub_some e h = ap is_some e ∙ h

      some_either : (b : Bool) (o : Option Record) → IsSome o → IsSome (cond b (Some r) o)
      some_either true o h = refl
      some_either false o h = h

      below : (o : Option RecordId) (q : RecordId) → IsSome o → IfSome o (λ other. is_lt (id_cmp later other) ≡ false)
          → IfSome o (λ other. (q : RecordId) → IsSome (record_in old.entries q) → is_lt (id_cmp other q) ≡ false) → IsSome (record_in old.entries q) → is_lt (id_cmp later q) ≡ false
      below None q some low greatest held = absurd (true≢false (sym some))
      below (Some other) q some low greatest held = not_less_through later other q low (greatest q held)

      by : (q : RecordId) (b : Bool) → is_at (id_cmp id) q ≡ b → IsSome (cond (is_at (id_cmp id) q) (Some r) (record_in old.entries q)) → is_lt (id_cmp later q) ≡ false
      by q true e h = ap (λ k. is_lt (id_cmp later k)) (sym (exact_ids id q e)) ∙ other
      by q false e h =
          let held : IsSome (record_in old.entries q) = sym (ap (λ b. is_some (cond b (Some r) (record_in old.entries q))) e) ∙ h in
          below last q (was.some q held) one was.greatest held

  pub put_union : record_in old.entries id ≡ None → IsUnion has_record old.entries ((id, r) ∷ []) new.entries
  put_union absent = union_new exact_ids id_total same_record old.entries new.entries id r r absent (changed_from old.entries new.entries id r put) (λ x. refl)

-- ---- the record is held already

twice : (b : Bool) → b ≡ (b || b)
twice true = refl
twice false = refl

pub held_union : (records : Records) (r : Record) → record_in records r.id ≡ Some r → IsUnion has_record records (one_record r) records
held_union records r at =
    union_at exact_ids id_total same_record records records r.id r r r at (record { here = at; others = λ q apart. refl }) (λ x. twice (same_record r x))

pub held_here : (o : Option (Bor Record)) (p : Option Record) (r : Record) → option_copied o ≡ p → is_some o ≡ true → IfSome p (λ held. held ≡ r) → p ≡ Some r
held_here None p r is some agrees = absurd (true≢false (sym some))
held_here (Some b) p r is some agrees = sym is ∙ ap Some (subst (λ o. IfSome o (λ held. held ≡ r)) (sym is) agrees)

pub absent_here : (o : Option (Bor Record)) (p : Option Record) → option_copied o ≡ p → is_some o ≡ false → p ≡ None
absent_here None p is some = sym is
absent_here (Some b) p is some = absurd (true≢false some)

-- ---- the names in the order in which they came

pub came_held : (records : Records) (id : RecordId) → list_any (is_at (id_cmp id)) (map (λ e. e.0) records) ≡ is_some (record_in records id)
came_held [] id = refl
came_held (e ∷ records) id = by (is_at (id_cmp id) e.0) (came_held records id)
  where
    by : (b : Bool) → list_any (is_at (id_cmp id)) (map (λ e. e.0) records) ≡ is_some (record_in records id)
        → (b || list_any (is_at (id_cmp id)) (map (λ e. e.0) records)) ≡ is_some (cond b (Some e.1) (record_in records id))
    by true h = refl
    by false h = h

-- ---- two that hold records

-- records that do not clash are one
pub agree_same : (o : Option Record) (r : Record) → IfSome o (λ mine. Clashes same_record (λ x y. x ≢ y) mine r → ⊥) → IfSome o (λ held. held ≡ r)
agree_same None r h = tt
agree_same (Some s) r h = elim (same_or_other s r) [
  | inl same ↦ same
  | inr apart ↦ absurd (h (record { one = s; other = r; has_one = same_record_itself s; has_other = same_record_itself r; apart = apart }))
]

-- the first holds under the name what the second holds there
abbrev pub CoversAt : Records → Records → RecordId → Type 0
CoversAt a b id = (r : Record) → record_in b id ≡ Some r → record_in a id ≡ Some r

-- what the second holds there is this record
pub covers_one : (mine theirs : Records) (r : Record) → record_in theirs r.id ≡ Some r → record_in mine r.id ≡ Some r → CoversAt mine theirs r.id
covers_one mine theirs r held covers = λ s there. covers ∙ sym held ∙ there

module _ (mine theirs : Records) (id : RecordId) (rest : List RecordId) where
  pub covered_step : CoversAt mine theirs id → Covered id_cmp same_record mine theirs (found_by theirs (id ∷ rest)) → Covered id_cmp same_record mine theirs (found_by theirs rest)
  covered_step covers = by (record_in theirs id) refl
    where
      by : (o : Option Record) → record_in theirs id ≡ o → Covered id_cmp same_record mine theirs (with_value id o (found_by theirs rest)) → Covered id_cmp same_record mine theirs (found_by theirs rest)
      by None e a = a
      by (Some r) e a = covered_next (id, r) (found_by theirs rest) (entry_in id_cmp same_record exact_ids mine (id, r) (covers r e)) a

  pub included_at : Includes has_record mine theirs → CoversAt mine theirs id
  included_at all r h = record_of_atom mine id r (all (id, r) (atom_of_record theirs id r h))

-- ---- the least name under which both hold different records

-- both hold a record under the name, and not the same one
pub record DifferUnder (a b : Records) (id : RecordId) : Type 0 where
  pub one : Record
  pub other : Record
  pub in_first : record_in a id ≡ Some one
  pub in_second : record_in b id ≡ Some other
  pub apart : one ≢ other

module _ (mine theirs : Records) (r : Record) (held : record_in theirs r.id ≡ Some r) where
  pub differ_there : HoldsAnother mine r → DifferUnder mine theirs r.id
  differ_there another = record { one = another.other; other = r; in_first = another.held; in_second = held; apart = another.apart }

  pub another_there : DifferUnder mine theirs r.id → HoldsAnother mine r
  another_there d = record { other = d.one; held = d.in_first; apart = λ same. d.apart (same ∙ some_same r d.other (sym held ∙ d.in_second)) }

-- each name that differs is among those that are left, or not below the least one so far
pub record IsLeastSoFar (mine theirs : Records) (left : List RecordId) (least : Option RecordId) : Type 0 where
  pub found : IfSome least (λ id. DifferUnder mine theirs id)
  pub others : (q : RecordId) → DifferUnder mine theirs q → (IsSome least × IfSome least (λ id. IsLeBy id_cmp id q)) ⊎ (list_any (is_at (id_cmp q)) left ≡ true)

module _ (mine theirs : Records) where
  pub least_first : IsLeastSoFar mine theirs (map (λ e. e.0) theirs) None
  least_first = record {
    found = tt;
    others = λ q d. inr (came_held theirs q ∙ ap is_some d.in_second);
  }

  pub least_passed : (id : RecordId) (rest : List RecordId) (least : Option RecordId) → (DifferUnder mine theirs id → ⊥) → IsLeastSoFar mine theirs (id ∷ rest) least → IsLeastSoFar mine theirs rest least
  least_passed id rest least same so = record {
    found = so.found;
    others = λ q d. elim (so.others q d) [
      | inl low ↦ inl low
      | inr among ↦ elim (or_cases (is_at (id_cmp q) id) (list_any (is_at (id_cmp q)) rest) among) [
        | inl here ↦ absurd (same (subst (λ k. DifferUnder mine theirs k) (exact_ids q id here) d))
        | inr later ↦ inr later
      ]
    ];
  }

  pub least_taken : (id : RecordId) (rest : List RecordId) (least new : Option RecordId) → DifferUnder mine theirs id → IsLeastSoFar mine theirs (id ∷ rest) least
      → MatchOption new ((least ≡ None) × (Some id ≡ None)) (λ _. Unit {0}) → IfSome new (λ k. (least ≡ Some k) ⊎ (Some id ≡ Some k))
      → IfSome new (λ k. IfSome least (IsLeBy id_cmp k) × IfSome (Some id) (IsLeBy id_cmp k)) → IsLeastSoFar mine theirs rest new
  least_taken id rest least None d so none either low = absurd (true≢false (ap is_some none.1))
  least_taken id rest least (Some k) d so none either low = record {
    found = elim either [
      | inl before ↦ subst (λ o. IfSome o (λ q. DifferUnder mine theirs q)) before so.found
      | inr now ↦ subst (λ o. IfSome o (λ q. DifferUnder mine theirs q)) now d
    ];
    others = λ q e. elim (so.others q e) [
      | inl was ↦ inl (refl, through least q was.0 low.0 was.1)
      | inr among ↦ elim (or_cases (is_at (id_cmp q) id) (list_any (is_at (id_cmp q)) rest) among) [
        | inl here ↦ inl (refl, subst (λ n. IsLeBy id_cmp k n) (sym (exact_ids q id here)) low.1)
        | inr later ↦ inr later
      ]
    ];
  }
    where
      through : (o : Option RecordId) (q : RecordId) → IsSome o → IfSome o (IsLeBy id_cmp k) → IfSome o (λ id. IsLeBy id_cmp id q) → IsLeBy id_cmp k q
      through None q some one other = absurd (true≢false (sym some))
      through (Some a) q some one other = le_through k a q one other

  differ_at : (k : RecordId) (x y : Record) → has_record mine (k, x) ≡ true → has_record theirs (k, y) ≡ true → (x ≢ y) → DifferUnder mine theirs k
  differ_at k x y h i apart = record { one = x; other = y; in_first = record_of_atom mine k x h; in_second = record_of_atom theirs k y i; apart = apart }

  pub none_differ : (least : Option RecordId) → IsLeastSoFar mine theirs [] least → IfNone least (Clashes has_record excludes_record mine theirs → ⊥)
  none_differ None so = λ c. elim (so.others c.other.0 (differ_at c.other.0 c.one.1 c.other.1 (subst (λ k. has_record mine (k, c.one.1) ≡ true) c.apart.0 c.has_one) c.has_other c.apart.1)) [
    | inl low ↦ true≢false (sym low.0)
    | inr none ↦ true≢false (sym none)
  ]
  none_differ (Some id) so = tt

  pub least_differs : (least : Option RecordId) → IsLeastSoFar mine theirs [] least → IfSome least (λ id. Clashes has_record excludes_record mine theirs × IsClashAt mine theirs id)
  least_differs None so = tt
  least_differs (Some id) so =
      let d : DifferUnder mine theirs id = so.found in
      let clash : Clashes same_record (λ x y. x ≢ y) d.one d.other = record { one = d.one; other = d.other; has_one = same_record_itself d.one; has_other = same_record_itself d.other; apart = d.apart } in (
        record {
          one = (id, d.one);
          other = (id, d.other);
          has_one = atom_of_record mine id d.one d.in_first;
          has_other = atom_of_record theirs id d.other d.in_second;
          apart = (refl, d.apart);
        },
        record {
          first = d.one;
          second = d.other;
          in_first = d.in_first;
          in_second = d.in_second;
          clash = clash;
          there = tt;
          least = λ q x y below h i apart. elim (so.others q (differ_at q x y h i apart)) [
            | inl low ↦ le_not_less id q low.1 below
            | inr none ↦ true≢false (sym none)
          ];
        },
      )

-- ---- no names

pub none_greatest : (records : Records) (last : Option RecordId) (answer : Bool) → IsGreatestName records last → is_some last ≡ not answer → IsTrue answer ↔ HasNone has_record records
none_greatest records last answer is e = (
  λ h. λ x. lacks (record_in records x.0) x.1 (λ some. true≢false (sym (is.some x.0 some) ∙ e ∙ ap not h)),
  λ none. none_of answer last e is none,
)
  where
    lacks : (o : Option Record) (x : Record) → (IsSome o → ⊥) → some_has same_record o x ≡ false
    lacks None x h = refl
    lacks (Some r) x h = absurd (h refl)

    one_there : (id : RecordId) (o : Option Record) → record_in records id ≡ o → IsSome o → HasNone has_record records → ⊥
    one_there id None e some none = true≢false (sym some)
    one_there id (Some r) e some none = true≢false (sym (atom_of_record records id r e) ∙ none (id, r))

    none_of : (b : Bool) (o : Option RecordId) → is_some o ≡ not b → IsGreatestName records o → HasNone has_record records → b ≡ true
    none_of true o e is none = refl
    none_of false None e is none = absurd (false≢true e)
    none_of false (Some id) e is none = absurd (one_there id (record_in records id) refl is.held none)

-- ---- the next name

module _ (records : Records) (after : Option RecordId) where
  pub all_none : (r : Option RecordId) → MatchOption r ((q : RecordId) → IsAbove id_cmp after q → lookup (same_id q) records ≡ None) (λ _. Unit {0})
      → MatchOption r ((q : RecordId) → IsAbove id_cmp after q → record_in records q ≡ None) (λ _. Unit {0})
  all_none None none = λ q above. one_lookup records q ∙ none q above
  all_none (Some id) none = tt

  pub all_found : (r : Option RecordId) → IfSome r (λ id. IsAbove id_cmp after id × IsSome (lookup (same_id id) records)) → IfSome r (λ id. IsAbove id_cmp after id × IsSome (record_in records id))
  all_found None found = tt
  all_found (Some id) found = (found.0, ap is_some (one_lookup records id) ∙ found.1)

  pub all_least : (r : Option RecordId) → IfSome r (λ id. (q : RecordId) → IsAbove id_cmp after q → IsSome (lookup (same_id q) records) → IsLeBy id_cmp id q)
      → IfSome r (λ id. (q : RecordId) → IsAbove id_cmp after q → IsSome (record_in records q) → IsLeBy id_cmp id q)
  all_least None least = tt
  all_least (Some id) least = λ q above held. least q above (sym (ap is_some (one_lookup records q)) ∙ held)

-- different records exclude each other
pub records_exclude : IsExclusion same_record (λ x y. x ≢ y)
records_exclude = record {
  symmetric = λ x y apart e. apart (sym e);
  different = λ x apart. apart refl;
  sound = λ r x y h k apart. apart (sym (exact_record r x h) ∙ exact_record r y k);
}
