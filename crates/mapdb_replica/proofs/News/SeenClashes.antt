-- Clashes that are found with one operation after the other.
use Rattle.std.proofs.Common.{◌≡◌, ℕ, ◌+◌, ◌<◌, Bool, true, false, Some, refl, sym, ap, subst, ◌∙◌, List, [], ◌∷◌, ◌++◌, append_assoc, get_or, inl, inr, length, take}
use Rattle.std.specs.Prelude.{◌≢◌, ◌⊎◌, Option, None, if◌then◌else◌}
use Rattle.std.specs.Option.{option_or}
use Rattle.std.proofs.lemmas.Bool.{cond-false, cond-true}
use Rattle.std.proofs.lemmas.List.{take_more}
use Rattle.mapdb_facts.specs.Adding.{clash_of, other_record, same_record}
use Rattle.mapdb_facts.specs.Names.{same_id}
use Rattle.mapdb_facts.specs.State.{Atom, Gives, HasAtom, IsSound, Rec, State, first_of, join, said, state_of}
use Rattle.mapdb_facts.specs.declared.names.RecordId.{RecordId}
use Rattle.mapdb_facts.specs.declared.operations.Op.{Op}
use Rattle.mapdb_facts.specs.declared.operations.Op.TheVariants.{Born, Closed, Cut}
use Rattle.mapdb_facts.specs.declared.operations.Record.{Record}
use Rattle.mapdb_facts.proofs.Maps.Atoms.{atom_kept, record_held}
use Rattle.mapdb_facts.proofs.States.Joins.{atom_append, atom_left, atom_right, state_of-put}
use Rattle.mapdb_facts.proofs.Lists.SameNames.{none_some, same_id_itself}
use Rattle.mapdb_replica.specs.Clashing.{ClashesAt, IsLeastPassing, SameRecords}
use Rattle.mapdb_replica.specs.Taking.{lesser_name}
use Rattle.mapdb_replica.proofs.News.BatchClashes.{apart_false, false_apart, none_name, some_name}
use Rattle.mapdb_replica.proofs.News.LeastNames.{least-more, least-same}
use Rattle.mapdb_facts.proofs.RecordLemmas.SameRecords.{same_or_other}

-- a clash with what is held is a different record of the name
pub clash_of-to : (S : State) (op : Op) (id : RecordId) → clash_of S op ≡ Some id → (r : Record) × (s : Record) × Gives op (Rec r) × (r.id ≡ id) × (S.record_at id ≡ Some s) × (r ≢ s)
clash_of-to S (Born r) id h = by (S.record_at r.id) refl h
  where
    differs : (s : Record) (b : Bool) → same_record s r ≡ b → S.record_at r.id ≡ Some s → (if b then None else Some r.id) ≡ Some id → (q : Record) × (t : Record) × (r ≡ q) × (q.id ≡ id) × (S.record_at id ≡ Some t) × (q ≢ t)
    differs s true same held e = absurd (none_name id e)
    differs s false same held e =
        (r, s, refl, some_name r.id id e, subst (λ (x : RecordId). S.record_at x ≡ Some s) (some_name r.id id e) held, λ k. false_apart s r same (sym k))

    by : (o : Option Record) → S.record_at r.id ≡ o → other_record o r ≡ Some id → (q : Record) × (t : Record) × (r ≡ q) × (q.id ≡ id) × (S.record_at id ≡ Some t) × (q ≢ t)
    by None held e = absurd (none_name id e)
    by (Some s) held e = differs s (same_record s r) refl held e
clash_of-to S (Cut cut) id h = absurd (none_name id h)
clash_of-to S (Closed space) id h = absurd (none_name id h)

pub clash_of-from : (S : State) (op : Op) (r s : Record) → Gives op (Rec r) → S.record_at r.id ≡ Some s → r ≢ s → clash_of S op ≡ Some r.id
clash_of-from S (Born t) r s gives held apart =
    subst (λ (x : Record). clash_of S (Born x) ≡ Some r.id) (sym gives)
    (ap (λ (o : Option Record). other_record o r) held ∙ cond-false (same_record s r) None (Some r.id) (apart_false s r (λ e. apart (sym e))))
clash_of-from S (Cut cut) r s gives held apart = absurd gives
clash_of-from S (Closed space) r s gives held apart = absurd gives

-- it is the name of the operation's record
clash_name : (S : State) (op : Op) (r : Record) (id : RecordId) → Gives op (Rec r) → clash_of S op ≡ Some id → id ≡ r.id
clash_name S (Born t) r id gives h = let found = clash_of-to S (Born t) id h in sym found.3 ∙ ap (λ (x : Record). x.id) (sym found.2 ∙ gives)
clash_name S (Cut cut) r id gives h = absurd gives
clash_name S (Closed space) r id gives h = absurd gives

or_some : (a b : Option RecordId) (id : RecordId) → option_or a b ≡ Some id → (a ≡ Some id) ⊎ (b ≡ Some id)
or_some None b id h = inr h
or_some (Some x) b id h = inl h

or_first : (a b : Option RecordId) (id : RecordId) → a ≡ Some id → option_or a b ≡ Some id
or_first a b id h = ap (λ (o : Option RecordId). option_or o b) h

or_second : (a b : Option RecordId) (id : RecordId) → ((x : RecordId) → a ≡ Some x → x ≡ id) → b ≡ Some id → option_or a b ≡ Some id
or_second None b id same h = h
or_second (Some x) b id same h = ap Some (same x refl)

-- the lesser of two names, where both are there
abbrev pub with_lesser : Option RecordId → Option RecordId → Option RecordId
with_lesser None least = least
with_lesser (Some id) least = Some (lesser_name id least)

-- the first of a batch, with one more
pub taken-next : (batch : List Op) (i : ℕ) (op : Op) → i < length batch → op ≡ get_or batch i op → take i batch ++ op ∷ [] ≡ take (i + 1) batch
taken-next batch i op within here = ap (λ (x : Op). take i batch ++ x ∷ []) here ∙ sym (take_more batch i op within)

-- some record of the name is found where one is there
found_some : (xs : List Op) (r : Record) → HasAtom xs (Rec r) → (s : Record) × ((state_of xs).record_at r.id ≡ Some s)
found_some [] r h = absurd h
found_some (op ∷ ops) r h = by ((said op).record_at r.id) refl (found_some ops r)
  where
    here : (o : Op) → Gives o (Rec r) → (said o).record_at r.id ≡ Some r
    here (Born t) e = subst (λ (x : Record). (said (Born x)).record_at r.id ≡ Some r) (sym e) (cond-true (same_id r.id r.id) (Some r) None (same_id_itself r.id))
    here (Cut cut) e = absurd e
    here (Closed space) e = absurd e

    by : (o : Option Record) → (said op).record_at r.id ≡ o → (HasAtom ops (Rec r) → (s : Record) × ((state_of ops).record_at r.id ≡ Some s)) → (s : Record) × (first_of o ((state_of ops).record_at r.id) ≡ Some s)
    by (Some s) e rest = (s, refl)
    by None e rest = elim h [ inl k ↦ absurd (none_some r (sym e ∙ here op k)) | inr later ↦ rest later ]

module _ (held xs : List Op) (S T : State) (sound : IsSound held) (is_held : S ≡ state_of held) (is_seen : SameRecords T (state_of xs)) where
  -- one of the two is told, where different records of the name are held or seen
  told : (op : Op) (r s : Record) → Gives op (Rec r) → (S.record_at r.id ≡ Some s) ⊎ (T.record_at r.id ≡ Some s) → r ≢ s → option_or (clash_of S op) (clash_of T op) ≡ Some r.id
  told op r s gives at apart =
      elim at [
        | inl k ↦ or_first (clash_of S op) (clash_of T op) r.id (clash_of-from S op r s gives k apart)
        | inr k ↦ or_second (clash_of S op) (clash_of T op) r.id (λ x. clash_name S op r x gives) (clash_of-from T op r s gives k apart)
      ]

  held_at : (s : Record) → HasAtom held (Rec s) → S.record_at s.id ≡ Some s
  held_at s k = subst (λ (U : State). U.record_at s.id ≡ Some s) (sym is_held) (atom_kept held (Rec s) sound k)

  -- a seen record of the operation's name: it is the operation's, or is told
  seen_told : (op : Op) (r s : Record) → Gives op (Rec r) → HasAtom xs (Rec s) → s.id ≡ r.id → HasAtom xs (Rec r) ⊎ (option_or (clash_of S op) (clash_of T op) ≡ Some r.id)
  seen_told op r s gives k same =
      let found = found_some xs s k in
      let at : (state_of xs).record_at r.id ≡ Some found.0 = subst (λ (x : RecordId). (state_of xs).record_at x ≡ Some found.0) same found.1 in
      elim (same_or_other r found.0) [
        | inl one ↦ inl (subst (λ (x : Record). HasAtom xs (Rec x)) (sym one) (record_held xs r.id found.0 at).0)
        | inr apart ↦ inr (told op r found.0 gives (inr (is_seen r.id ∙ at)) apart)
      ]

  clash_first : (op : Op) (r s : Record) → Gives op (Rec r) → HasAtom (held ++ xs) (Rec s) → s.id ≡ r.id → r ≢ s → ClashesAt (held ++ xs) xs r.id ⊎ (option_or (clash_of S op) (clash_of T op) ≡ Some r.id)
  clash_first op r s gives k same apart =
      elim (atom_append held xs (Rec s) k) [
        | inl old ↦ inr (told op r s gives (inl (subst (λ (x : RecordId). S.record_at x ≡ Some s) same (held_at s old))) apart)
        | inr seen ↦ elim (seen_told op r s gives seen same) [
          | inl one ↦ inl (record { one = r; other = s; in_batch = one; in_all = k; one_named = refl; other_named = same; apart = apart })
          | inr found ↦ inr found
        ]
      ]

  one_of : (o : Op) (r s : Record) → Gives o (Rec r) → Gives o (Rec s) → r ≡ s
  one_of (Born t) r s h k = sym h ∙ k
  one_of (Cut cut) r s h k = absurd h
  one_of (Closed space) r s h k = absurd h

  last_of : (ops : List Op) (op : Op) (atom : Atom) → HasAtom (ops ++ op ∷ []) atom → HasAtom ops atom ⊎ Gives op atom
  last_of ops op atom h = elim (atom_append ops (op ∷ []) atom h) [ inl early ↦ inl early | inr last ↦ elim last [ inl here ↦ inr here | inr none ↦ absurd none ] ]

  at_name : (op : Op) (r : Record) (id : RecordId) → r.id ≡ id → ClashesAt (held ++ xs) xs r.id ⊎ (option_or (clash_of S op) (clash_of T op) ≡ Some r.id) → (option_or (clash_of S op) (clash_of T op) ≡ Some id) ⊎ ClashesAt (held ++ xs) xs id
  at_name op r id named h = elim h [ inl d ↦ inr (subst (ClashesAt (held ++ xs) xs) named d) | inr e ↦ inl (e ∙ ap Some named) ]

  step_to : (op : Op) (id : RecordId) → ClashesAt (held ++ (xs ++ op ∷ [])) (xs ++ op ∷ []) id → (option_or (clash_of S op) (clash_of T op) ≡ Some id) ⊎ ClashesAt (held ++ xs) xs id
  step_to op id d =
      let among = last_of (held ++ xs) op (Rec d.other) (subst (λ (ops : List Op). HasAtom ops (Rec d.other)) (sym (append_assoc held xs (op ∷ []))) d.in_all) in
      elim (last_of xs op (Rec d.one) d.in_batch) [
        | inl one_early ↦ elim among [
          | inl other_early ↦ inr (record { one = d.one; other = d.other; in_batch = one_early; in_all = other_early; one_named = d.one_named; other_named = d.other_named; apart = d.apart })
          | inr other_last ↦ at_name op d.other id d.other_named (clash_first op d.other d.one other_last (atom_right held xs (Rec d.one) one_early) (d.one_named ∙ sym d.other_named) (λ e. d.apart (sym e)))
        ]
        | inr one_last ↦ elim among [
          | inl other_early ↦ at_name op d.one id d.one_named (clash_first op d.one d.other one_last other_early (d.other_named ∙ sym d.one_named) d.apart)
          | inr other_last ↦ absurd (d.apart (one_of op d.one d.other one_last other_last))
        ]
      ]

  told_clash : (op : Op) (id : RecordId) (r s : Record) → Gives op (Rec r) → r.id ≡ id → HasAtom (held ++ xs) (Rec s) → s.id ≡ id → r ≢ s → ClashesAt (held ++ (xs ++ op ∷ [])) (xs ++ op ∷ []) id
  told_clash op id r s gives named k same apart = record {
    one = r;
    other = s;
    in_batch = atom_right xs (op ∷ []) (Rec r) (inl gives);
    in_all = subst (λ (ops : List Op). HasAtom ops (Rec s)) (append_assoc held xs (op ∷ [])) (atom_left (held ++ xs) (op ∷ []) (Rec s) k);
    one_named = named;
    other_named = same;
    apart = apart;
  }

  step_from : (op : Op) (id : RecordId) → (option_or (clash_of S op) (clash_of T op) ≡ Some id) ⊎ ClashesAt (held ++ xs) xs id → ClashesAt (held ++ (xs ++ op ∷ [])) (xs ++ op ∷ []) id
  step_from op id (inl found) =
      elim (or_some (clash_of S op) (clash_of T op) id found) [
        | inl e ↦
            let c = clash_of-to S op id e in
            let at = record_held held id c.1 (subst (λ (U : State). U.record_at id ≡ Some c.1) is_held c.4) in
            told_clash op id c.0 c.1 c.2 c.3 (atom_left held xs (Rec c.1) at.0) at.1 c.5
        | inr e ↦
            let c = clash_of-to T op id e in
            let at = record_held xs id c.1 (sym (is_seen id) ∙ c.4) in
            told_clash op id c.0 c.1 c.2 c.3 (atom_right held xs (Rec c.1) at.0) at.1 c.5
      ]
  step_from op id (inr d) = record {
    one = d.one;
    other = d.other;
    in_batch = atom_left xs (op ∷ []) (Rec d.one) d.in_batch;
    in_all = subst (λ (ops : List Op). HasAtom ops (Rec d.other)) (append_assoc held xs (op ∷ [])) (atom_left (held ++ xs) (op ∷ []) (Rec d.other) d.in_all);
    one_named = d.one_named;
    other_named = d.other_named;
    apart = d.apart;
  }

  -- the least name with one operation more, which clashes or not
  least_step : (op : Op) (o least : Option RecordId) → option_or (clash_of S op) (clash_of T op) ≡ o → IsLeastPassing (ClashesAt (held ++ xs) xs) least → IsLeastPassing (ClashesAt (held ++ (xs ++ op ∷ [])) (xs ++ op ∷ [])) (with_lesser o least)
  least_step op None least is h =
      least-same (ClashesAt (held ++ xs) xs) (ClashesAt (held ++ (xs ++ op ∷ [])) (xs ++ op ∷ [])) least
      (λ id. (
        λ d. step_from op id (inr d),
        λ d. elim (step_to op id d) [ inl e ↦ absurd (none_name id (sym is ∙ e)) | inr k ↦ k ],
      ))
      h
  least_step op (Some a) least is h =
      least-same (λ id. (a ≡ id) ⊎ ClashesAt (held ++ xs) xs id) (ClashesAt (held ++ (xs ++ op ∷ [])) (xs ++ op ∷ [])) (Some (lesser_name a least))
      (λ id. (
        λ k. step_from op id (elim k [ inl e ↦ inl (is ∙ ap Some e) | inr d ↦ inr d ]),
        λ d. elim (step_to op id d) [ inl e ↦ inl (some_name a id (sym is ∙ e)) | inr k ↦ inr k ],
      ))
      (least-more (ClashesAt (held ++ xs) xs) a least h)

-- the first of a batch, with one more
pub least-next : (held batch : List Op) (i : ℕ) (op : Op) (S T : State) (o least : Option RecordId) → i < length batch → op ≡ get_or batch i op → IsSound held → S ≡ state_of held → SameRecords T (state_of (take i batch)) → o ≡ option_or (clash_of S op) (clash_of T op)
    → IsLeastPassing (ClashesAt (held ++ take i batch) (take i batch)) least → IsLeastPassing (ClashesAt (held ++ take (i + 1) batch) (take (i + 1) batch)) (with_lesser o least)
least-next held batch i op S T o least within here sound is_held is_seen is h =
    subst (λ (ops : List Op). IsLeastPassing (ClashesAt (held ++ ops) ops) (with_lesser o least)) (taken-next batch i op within here)
    (least_step held (take i batch) S T sound is_held is_seen op o least (sym is) h)

pub seen-next : (batch : List Op) (i : ℕ) (op : Op) (T U : State) → i < length batch → op ≡ get_or batch i op → SameRecords T (state_of (take i batch)) → SameRecords U (join T (said op)) → SameRecords U (state_of (take (i + 1) batch))
seen-next batch i op T U within here so_far more id =
    more id ∙ ap (λ (o : Option Record). first_of o ((said op).record_at id)) (so_far id)
    ∙ ap (λ (V : State). V.record_at id) (sym (state_of-put (take i batch) op))
    ∙ ap (λ (ops : List Op). (state_of ops).record_at id) (taken-next batch i op within here)
