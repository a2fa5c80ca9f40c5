-- A merge is the least upper bound, and is refused as a clash only where none exists.
use Rattle.std.proofs.Common.{◌≡◌, ℕ, Bool, true, false, Err, Ok, Result, Some, refl, sym, subst, ap, ◌∙◌, inl, inr, List, [], ◌∷◌, ◌++◌}
use Rattle.std.specs.Prelude.{◌⊎◌, ◌+◌, IfErr, OnOk, Option, None, is_ok, count_by, length, nat_lt, if◌then◌else◌}
use Rattle.std.specs.Option.{option_map, option_or}
use Rattle.std.proofs.lemmas.Bool.{and_parts, false≢true}
use Rattle.mapdb_facts.specs.Adding.{is_new}
use Rattle.mapdb_facts.specs.State.{Atom, Covers, HasAtom, IsSound, Rec, state_of}
use Rattle.mapdb_facts.specs.WellFormed.{all_formed, checked, is_formed}
use Rattle.mapdb_facts.specs.declared.checking.OpFault.{OpFault}
use Rattle.mapdb_facts.specs.declared.names.RecordId.{RecordId}
use Rattle.mapdb_facts.specs.declared.operations.Op.{Op}
use Rattle.mapdb_facts.proofs.States.Joins.{atom_append, atom_left, atom_right}
use Rattle.mapdb_replica.specs.Bounds.{AreBounded, IsLeastOfBoth, MergeIsLeast}
use Rattle.mapdb_replica.specs.Replica.{Log, most_operations, news}
use Rattle.mapdb_replica.specs.Taking.{Takes, bad_at, first_bad, least_clash, take_outcome, taken_unless, too_many}
use Rattle.mapdb_replica.specs.declared.faults.TakeFault.{TakeFault}
use Rattle.mapdb_replica.specs.declared.faults.TakeFault.TheVariants.{Bad, Clash, Full, Memory}
use Rattle.mapdb_replica.proofs.Calls.CallCases.{IsRefusedAs, take_cases}
use Rattle.mapdb_replica.proofs.News.NewsAtoms.{news_give}
use Rattle.mapdb_replica.proofs.News.SoundTakes.{no_clash_is_sound, taken_parts, takes_are_sound}

-- well-formed operations are not bad
pub formed_good : (place : ℕ) (ops : List Op) → all_formed ops ≡ true → first_bad place ops ≡ None
formed_good place [] formed = refl
formed_good place (op ∷ ops) formed =
    let parts = and_parts (is_formed op) (all_formed ops) formed in
    by_check (checked op) parts.0 (formed_good (place + 1) ops parts.1)
  where
    by_check : (o : Result (Unit {0}) OpFault) → is_ok o ≡ true → first_bad (place + 1) ops ≡ None → bad_at place o (first_bad (place + 1) ops) ≡ None
    by_check (Ok u) good later = later
    by_check (Err fault) good later = absurd (false≢true good)

-- what is new behind what is held is the least of both
pub least_of_both : (xs ys : List Op) → IsLeastOfBoth xs ys (xs ++ news (state_of xs) ys)
least_of_both xs ys = record {
  covers = λ atom has. ((news_give xs ys) atom).1 (atom_left xs ys atom has);
  covers_other = λ atom has. ((news_give xs ys) atom).1 (atom_right xs ys atom has);
  least = λ zs one other atom has. by_part zs one other atom (atom_append xs ys atom (((news_give xs ys) atom).0 has));
}
  where
    by_part : (zs : List Op) → Covers zs xs → Covers zs ys → (atom : Atom) → HasAtom xs atom ⊎ HasAtom ys atom → HasAtom zs atom
    by_part zs one other atom (inl before) = one atom before
    by_part zs one other atom (inr later) = other atom later

-- a sound list that has the atoms of both makes both together sound
bounded_sound : (xs ys : List Op) → AreBounded xs ys → IsSound (xs ++ ys)
bounded_sound xs ys bound r s in_r in_s same = bound.1 r s (into r (atom_append xs ys (Rec r) in_r)) (into s (atom_append xs ys (Rec s) in_s)) same
  where
    into : (t : _) → HasAtom xs (Rec t) ⊎ HasAtom ys (Rec t) → HasAtom bound.0 (Rec t)
    into t (inl before) = bound.2 (Rec t) before
    into t (inr later) = bound.3 (Rec t) later

-- both together bound both
sound_bounded : (xs ys : List Op) → IsSound (xs ++ ys) → AreBounded xs ys
sound_bounded xs ys sound = (xs ++ ys, sound, λ atom has. atom_left xs ys atom has, λ atom has. atom_right xs ys atom has)

no_clash_of : (full : Option TakeFault) (fresh : List Op) (fault : RecordId) → taken_unless (option_or None (option_or (option_map Clash None) full)) fresh ≡ Err (Clash fault) → full ≡ Some (Clash fault)
no_clash_of None fresh fault e = absurd (wrong e)
  where
    wrong : Ok fresh ≡ Err (Clash fault) → ⊥
    wrong h = cc
no_clash_of (Some other) fresh fault e = ap Some (same other e)
  where
    same : (f : TakeFault) → (let r : Result (List Op) TakeFault = Err f in r) ≡ Err (Clash fault) → f ≡ Clash fault
    same f h = cc

full_is : (xs ys : List Op) (id : RecordId) (b : Bool) → (if b then Some Full else None) ≡ Some (Clash id) → ⊥
full_is xs ys id true e = wrong e
  where
    wrong : Some Full ≡ Some (Clash id) → ⊥
    wrong h = cc
full_is xs ys id false e = wrong e
  where
    wrong : None ≡ Some (Clash id) → ⊥
    wrong h = cc

-- a clash is told exactly where there is one, of what is not bad
clash_told : (bad : Option TakeFault) (o : Option RecordId) (full : Option TakeFault) (fresh : List Op) (id : RecordId) → bad ≡ None → o ≡ Some id → taken_unless (option_or bad (option_or (option_map Clash o) full)) fresh ≡ Err (Clash id)
clash_told bad o full fresh id good is =
    ap (λ (b : Option TakeFault). taken_unless (option_or b (option_or (option_map Clash o) full)) fresh) good
    ∙ ap (λ (x : Option RecordId). taken_unless (option_or None (option_or (option_map Clash x) full)) fresh) is

no_clash_told : (xs ys : List Op) (bad : Option TakeFault) (o : Option RecordId) (id : RecordId) → bad ≡ None → o ≡ None → taken_unless (option_or bad (option_or (option_map Clash o) (too_many xs ys))) (news (state_of xs) ys) ≡ Err (Clash id) → ⊥
no_clash_told xs ys bad o id good none told =
    full_is xs ys id (nat_lt most_operations (length xs + count_by (is_new (state_of xs)) ys))
    (no_clash_of (too_many xs ys) (news (state_of xs) ys) id
    (sym (ap (λ (b : Option TakeFault). taken_unless (option_or b (option_or (option_map Clash o) (too_many xs ys))) (news (state_of xs) ys)) good
    ∙ ap (λ (x : Option RecordId). taken_unless (option_or None (option_or (option_map Clash x) (too_many xs ys))) (news (state_of xs) ys)) none) ∙ told))

pub merge_is_least : MergeIsLeast
merge_is_least xs ys sound formed = record {
  joined = λ ops is.
      let fresh : news (state_of xs) ys ≡ ops = (taken_parts (first_bad 0 ys) (least_clash xs ys) (too_many xs ys) (news (state_of xs) ys) ops is).3 in (
        subst (λ (zs : List Op). IsLeastOfBoth xs ys (xs ++ zs)) fresh (least_of_both xs ys),
        subst (λ (zs : List Op). IsSound (xs ++ zs)) fresh (λ r s in_r in_s same. takes_are_sound xs ys ops sound is r s (((news_give xs ys) (Rec r)).0 in_r) (((news_give xs ys) (Rec s)).0 in_s) same),
      );
  clash = (
    λ told bound. no_clash_told xs ys (first_bad 0 ys) (least_clash xs ys) told.0 (formed_good 0 ys formed) ((no_clash_is_sound xs ys sound).1 (bounded_sound xs ys bound)) told.1,
    λ unbounded. by_clash (least_clash xs ys) refl unbounded,
  );
}
  where
    by_clash : (o : Option RecordId) → least_clash xs ys ≡ o → (AreBounded xs ys → ⊥) → (id : RecordId) × (take_outcome xs ys ≡ Err (Clash id))
    by_clash None is unbounded = absurd (unbounded (sound_bounded xs ys ((no_clash_is_sound xs ys sound).0 is)))
    by_clash (Some id) is unbounded = (id, clash_told (first_bad 0 ys) (least_clash xs ys) (too_many xs ys) (news (state_of xs) ys) id (formed_good 0 ys formed) is)

-- What a copy comes to that took all that another one holds.
module _ (old new : Log) (ys : List Op) (sound : IsSound old.ops) (formed : all_formed ys ≡ true) where
  is_least : (o : Result (List Op) TakeFault) (result : Result ℕ TakeFault) → take_outcome old.ops ys ≡ o → Takes ys o result old new → OnOk result (IsLeastOfBoth old.ops ys new.ops)
  is_least (Ok ops) (Ok count) is takes = subst (λ (log : Log). IsLeastOfBoth old.ops ys log.ops) (sym takes.1) ((merge_is_least old.ops ys sound formed).joined ops is).0
  is_least (Err refusal) (Ok count) is takes = absurd (take_cases ys (Err refusal) (Ok count) old new takes)
  is_least o (Err fault) is takes = tt

  told_as : (refusal : TakeFault) (id : RecordId) → IsRefusedAs refusal (Clash id) → refusal ≡ Clash id
  told_as (Bad place why) id e = absurd (wrong e)
    where
      wrong : Clash id ≡ Bad place why → ⊥
      wrong h = cc
  told_as (Clash other) id e = by_side e
    where
      by_side : (Clash id ≡ Clash other) ⊎ (Clash id ≡ Memory 0) → Clash other ≡ Clash id
      by_side (inl h) = sym h
      by_side (inr h) = absurd (wrong h)
        where
          wrong : Clash id ≡ Memory 0 → ⊥
          wrong w = cc
  told_as Full id e = by_side e
    where
      by_side : (Clash id ≡ Full) ⊎ (Clash id ≡ Memory 0) → Full ≡ Clash id
      by_side (inl h) = sym h
      by_side (inr h) = absurd (wrong h)
        where
          wrong : Clash id ≡ Memory 0 → ⊥
          wrong w = cc
  told_as (Memory n) id e = by_side e
    where
      by_side : (Clash id ≡ Memory n) ⊎ (Clash id ≡ Memory 0) → Memory n ≡ Clash id
      by_side (inl h) = sym h
      by_side (inr h) = absurd (wrong h)
        where
          wrong : Clash id ≡ Memory 0 → ⊥
          wrong w = cc

  -- a clash is told only where there is no bound
  is_unbounded : (o : Result (List Op) TakeFault) (id : RecordId) → take_outcome old.ops ys ≡ o → Takes ys o (Err (Clash id)) old new → AreBounded old.ops ys → ⊥
  is_unbounded (Ok ops) id is takes bound = take_cases ys (Ok ops) (Err (Clash id)) old new takes
  is_unbounded (Err refusal) id is takes bound = (merge_is_least old.ops ys sound formed).clash.0 (id, is ∙ ap (λ (f : TakeFault). Err f) (told_as refusal id (take_cases ys (Err refusal) (Err (Clash id)) old new takes).0)) bound

  pub took_least : (result : Result ℕ TakeFault) → Takes ys (take_outcome old.ops ys) result old new → OnOk result (IsLeastOfBoth old.ops ys new.ops)
  took_least result takes = is_least (take_outcome old.ops ys) result refl takes

  pub clash_unbounded : (result : Result ℕ TakeFault) → Takes ys (take_outcome old.ops ys) result old new → IfErr result (λ fault. (id : RecordId) → fault ≡ Clash id → AreBounded old.ops ys → ⊥)
  clash_unbounded (Ok count) takes = tt
  clash_unbounded (Err fault) takes = λ id is. is_unbounded (take_outcome old.ops ys) id refl (subst (λ (f : TakeFault). Takes ys (take_outcome old.ops ys) (Err f) old new) is takes)
