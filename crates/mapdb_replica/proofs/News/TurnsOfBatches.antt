-- Each operation of a batch that is not refused may be added at its turn.
use Rattle.std.proofs.Common.{◌≡◌, ℕ, ◌+◌, ◌<◌, ◌≤◌, Bool, true, false, Ok, Err, Result, Some, refl, sym, ap, subst, ◌∙◌, inl, inr, List, [], ◌∷◌, ◌++◌, append_assoc, append-nil, get_or, length, length-append, take, arith}
use Rattle.std.specs.Prelude.{Option, None, count_by, is_ok, ◌&&◌, if◌then◌else◌}
use Rattle.std.proofs.lemmas.Bool.{false≢true}
use Rattle.std.proofs.lemmas.List.{drop_more, take-append-drop}
use Rattle.std.proofs.lemmas.List.Sums.{count_by_more_yes, sum_by-take-le}
use Rattle.mapdb_facts.specs.Adding.{added, added_if, clash_of, is_new}
use Rattle.mapdb_facts.specs.State.{Gives, HasAtom, Rec, State, state_of}
use Rattle.mapdb_facts.specs.WellFormed.{all_formed, checked}
use Rattle.mapdb_facts.specs.declared.checking.OpFault.{OpFault}
use Rattle.mapdb_facts.specs.declared.names.RecordId.{RecordId}
use Rattle.mapdb_facts.specs.declared.operations.Op.{Op}
use Rattle.mapdb_facts.proofs.Maps.Atoms.{record_held}
use Rattle.mapdb_facts.proofs.States.Formed.{formed_at}
use Rattle.mapdb_facts.proofs.States.Joins.{atom_append, atom_left, atom_right, state_of-append}
use Rattle.mapdb_replica.specs.Clashing.{ClashesAt, IsLeastPassing}
use Rattle.mapdb_replica.specs.Replica.{Log, most_operations, news}
use Rattle.mapdb_replica.specs.Taking.{bad_at, first_bad, least_clash, with_taken}
use Rattle.mapdb_replica.proofs.News.BatchClashes.{least_clash-is}
use Rattle.mapdb_replica.proofs.News.NewsOfBatches.{length-news, new_before, news-append, state-taken}
use Rattle.mapdb_replica.proofs.News.SeenClashes.{clash_of-to, taken-next}

-- what is well-formed has no fault
passed : (o : Result (Unit {0}) OpFault) → is_ok o ≡ true → o ≡ Ok tt
passed (Ok u) h = refl
passed (Err fault) h = absurd (false≢true h)

-- what one of the first operations of a batch gives, one of the batch gives
from_first : (batch : List Op) (i : ℕ) (r : _) → HasAtom (take i batch) (Rec r) → HasAtom batch (Rec r)
from_first batch i r h = subst (λ (ops : List Op). HasAtom ops (Rec r)) (take-append-drop i batch) (atom_left (take i batch) _ (Rec r) h)

given_at : (batch : List Op) (i : ℕ) (op : Op) (r : _) → i < length batch → op ≡ get_or batch i op → Gives op (Rec r) → HasAtom batch (Rec r)
given_at batch i op r within here gives =
    subst (λ (ops : List Op). HasAtom ops (Rec r)) (take-append-drop i batch)
    (atom_right (take i batch) _ (Rec r) (subst (λ (ops : List Op). HasAtom ops (Rec r)) (sym (drop_more batch i op within)) (inl (subst (λ (o : Op). Gives o (Rec r)) here gives))))

module _ (held batch : List Op) (i : ℕ) (op : Op) (within : i < length batch) (here : op ≡ get_or batch i op) where
  -- a clash at its turn would be a clash of the batch
  no_clash : (o : Option RecordId) → clash_of (state_of (held ++ take i batch)) op ≡ o → least_clash held batch ≡ None → o ≡ None
  no_clash None is none = refl
  no_clash (Some id) is none =
      let c = clash_of-to (state_of (held ++ take i batch)) op id is in
      let at = record_held (held ++ take i batch) id c.1 c.4 in
      let all : HasAtom (held ++ batch) (Rec c.1) =
      elim (atom_append held (take i batch) (Rec c.1) at.0) [
        | inl old ↦ atom_left held batch (Rec c.1) old
        | inr early ↦ atom_right held batch (Rec c.1) (from_first batch i c.1 early)
      ] in
      absurd (subst (IsLeastPassing (ClashesAt (held ++ batch) batch)) none (least_clash-is held batch) id
      (record { one = c.0; other = c.1; in_batch = given_at batch i op c.0 within here c.2; in_all = all; one_named = c.3; other_named = at.1; apart = c.5 }))

  -- of the copy that took the ones before it, and is to take this one
  abbrev pub turn : State
  turn = state_of (held ++ news (state_of held) (take i batch))

  pub turn_added : all_formed batch ≡ true → least_clash held batch ≡ None → is_new turn op ≡ true → added turn op ≡ Ok true
  turn_added formed none new =
      let clash : clash_of turn op ≡ None = ap (λ (S : State). clash_of S op) (state-taken held (take i batch)) ∙ no_clash (clash_of (state_of (held ++ take i batch)) op) refl none in
      ap (λ (o : Result (Unit {0}) OpFault). added_if o (is_new turn op) (clash_of turn op)) (passed (checked op) (formed_at batch i op op within (sym here) formed))
      ∙ ap (λ (b : Bool). added_if (Ok tt) b (clash_of turn op)) new
      ∙ ap (λ (o : Option RecordId). added_if (Ok tt) true o) clash

  -- there is room for it
  pub turn_room : length held + count_by (is_new (state_of held)) batch ≤ most_operations → is_new turn op ≡ true → length (held ++ news (state_of held) (take i batch)) < most_operations
  turn_room few new =
      let before : is_new (state_of held) op ≡ true = new_before (state_of held) (state_of (news (state_of held) (take i batch))) op (subst (λ (S : State). is_new S op ≡ true) (state_of-append held (news (state_of held) (take i batch))) new) in
      let more : count_by (is_new (state_of held)) (take (i + 1) batch) ≡ count_by (is_new (state_of held)) (take i batch) + 1 =
      count_by_more_yes (is_new (state_of held)) batch i op within (subst (λ (o : Op). is_new (state_of held) o ≡ true) here before) in
      let all : count_by (is_new (state_of held)) (take (i + 1) batch) ≤ count_by (is_new (state_of held)) batch = sum_by-take-le _ batch (i + 1) in
      let long : length (held ++ news (state_of held) (take i batch)) ≡ length held + length (news (state_of held) (take i batch)) = length-append held (news (state_of held) (take i batch)) in
      let low = length-news (state_of held) (take i batch) in
      omega arith

  -- what is new of one more
  pub news-next : news (state_of held) (take (i + 1) batch) ≡ news (state_of held) (take i batch) ++ (if is_new turn op then op ∷ [] else [])
  news-next =
      ap (news (state_of held)) (sym (taken-next batch i op within here))
      ∙ news-append (state_of held) (take i batch) (op ∷ [])
      ∙ ap (λ (S : State). news (state_of held) (take i batch) ++ (if is_new S op then op ∷ [] else [])) (sym (state_of-append held (take i batch)) ∙ sym (state-taken held (take i batch)))

-- operations that are taken in two parts
taken-twice : (log : Log) (xs ys : List Op) → with_taken (with_taken log xs) ys ≡ with_taken log (xs ++ ys)
taken-twice log xs ys = ap (λ (ops : List Op). record { processor = log.processor; ops = ops; own = log.own }) (append_assoc log.ops xs ys)

module _ (log : Log) (batch : List Op) (i : ℕ) (op : Op) (within : i < length batch) (here : op ≡ get_or batch i op) where
  pub one_more : (b : Bool) → is_new (turn log.ops batch i op within here) op ≡ b → news (state_of log.ops) (take (i + 1) batch) ≡ news (state_of log.ops) (take i batch) ++ (if b then op ∷ [] else [])
  one_more b new = news-next log.ops batch i op within here ∙ ap (λ (x : Bool). news (state_of log.ops) (take i batch) ++ (if x then op ∷ [] else [])) new

  -- what the copy holds with one operation more
  pub held-next : (now next : Log) (b : Bool) → is_new (turn log.ops batch i op within here) op ≡ b → now ≡ with_taken log (news (state_of log.ops) (take i batch)) → next ≡ (if b then with_taken now (op ∷ []) else now) → next ≡ with_taken log (news (state_of log.ops) (take (i + 1) batch))
  held-next now next true new so_far step =
      step ∙ ap (λ (l : Log). with_taken l (op ∷ [])) so_far ∙ taken-twice log (news (state_of log.ops) (take i batch)) (op ∷ []) ∙ ap (with_taken log) (sym (one_more true new))
  held-next now next false new so_far step =
      step ∙ so_far ∙ ap (with_taken log) (sym (one_more false new ∙ append-nil (news (state_of log.ops) (take i batch))))

  -- and how many of them it counts
  pub count-next : (count next : ℕ) (b : Bool) → is_new (turn log.ops batch i op within here) op ≡ b → count ≡ length (news (state_of log.ops) (take i batch)) → next ≡ (if b then count + 1 else count) → next ≡ length (news (state_of log.ops) (take (i + 1) batch))
  count-next count next true new so_far step =
      let more : length (news (state_of log.ops) (take (i + 1) batch)) ≡ length (news (state_of log.ops) (take i batch) ++ op ∷ []) = ap length (one_more true new) in
      let one : length (news (state_of log.ops) (take i batch) ++ op ∷ []) ≡ length (news (state_of log.ops) (take i batch)) + 1 = length-append (news (state_of log.ops) (take i batch)) (op ∷ []) in
      omega arith
  count-next count next false new so_far step =
      step ∙ so_far ∙ sym (ap length (one_more false new ∙ append-nil (news (state_of log.ops) (take i batch))))

-- a batch without a bad operation is well-formed
pub none_bad : (n : ℕ) (batch : List Op) → first_bad n batch ≡ None → all_formed batch ≡ true
none_bad n [] h = refl
none_bad n (op ∷ ops) h = step (checked op) h (none_bad (n + 1) ops)
  where
    step : (o : Result (Unit {0}) OpFault) → bad_at n o (first_bad (n + 1) ops) ≡ None → (first_bad (n + 1) ops ≡ None → all_formed ops ≡ true) → (is_ok o && all_formed ops) ≡ true
    step (Ok u) k later = later k
    step (Err fault) k later = cc
