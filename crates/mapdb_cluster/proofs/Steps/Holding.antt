-- What a copy holds after one event.
use Rattle.std.proofs.Common.{◌≡◌, ℕ, Bool, true, false, Some, refl, sym, subst, ap, ◌∙◌, inl, inr, List, [], ◌++◌, append-nil}
use Rattle.std.specs.Prelude.{◌==◌, ◌⊎◌, None, slice_get, slice_set, if◌then◌else◌}
use Rattle.std.proofs.lemmas.Bool.{eqb-true}
use Rattle.mapdb_facts.specs.State.{HasAtom, IsSound, Rec, SameAtoms}
use Rattle.mapdb_facts.specs.declared.operations.Op.{Op}
use Rattle.mapdb_facts.proofs.States.Joins.{atom_append, atom_left}
use Rattle.mapdb_replica.specs.Replica.{Log}
use Rattle.mapdb_cluster.specs.Laws.{AreSound}
use Rattle.mapdb_cluster.specs.Net.{Done, Net, with_copy}
use Rattle.mapdb_cluster.specs.Run.{took_by}
use Rattle.mapdb_cluster.specs.declared.events.Reply.{Reply}
use Rattle.mapdb_cluster.proofs.Steps.Slots.{one_there, set_here, set_nowhere, set_other}
use Rattle.mapdb_replica.proofs.News.NewsAtoms.{same_itself}

-- a copy after an event holds what it held and what it took
pub record HoldsDone (done : Done) (at : ℕ) (before : Log) : Type 0 where
  pub copy : Log
  pub there : slice_get done.net.copies at ≡ Some copy
  pub atoms : SameAtoms copy.ops (before.ops ++ took_by done at)
  pub sound : IsSound copy.ops

-- each copy does, no copy is new, and all are sound
pub record AllHold (net : Net) (done : Done) : Type 0 where
  pub hold : (at : ℕ) (before : Log) → slice_get net.copies at ≡ Some before → HoldsDone done at before
  pub absent : (at : ℕ) → slice_get net.copies at ≡ None → slice_get done.net.copies at ≡ None
  pub sound : AreSound done.net

pub same_trans : (xs ys zs : List Op) → SameAtoms xs ys → SameAtoms ys zs → SameAtoms xs zs
same_trans xs ys zs a b atom = (λ has. (b atom).0 ((a atom).0 has), λ has. (a atom).1 ((b atom).1 has))

pub same_turned : (xs ys : List Op) → SameAtoms xs ys → SameAtoms ys xs
same_turned xs ys a atom = ((a atom).1, (a atom).0)

-- nothing more
same_none : (xs ys : List Op) → ys ≡ [] → SameAtoms xs (xs ++ ys)
same_none xs ys none = subst (λ (zs : List Op). SameAtoms xs zs) (sym (ap (λ (zs : List Op). xs ++ zs) none ∙ append-nil xs)) (same_itself xs)

-- lists with the same atoms are sound together
pub sound_alike : (xs ys : List Op) → SameAtoms xs ys → IsSound ys → IsSound xs
sound_alike xs ys same sound r s in_r in_s names = sound r s ((same (Rec r)).0 in_r) ((same (Rec s)).0 in_s) names

took_none : (done : Done) (at : ℕ) → done.took ≡ [] → took_by done at ≡ []
took_none done at none = by_place (done.taker == at)
  where
    by_place : (b : Bool) → (if b then done.took else []) ≡ []
    by_place true = none
    by_place false = refl

-- where no copy changes and none takes anything
pub unchanged_hold : (net : Net) (done : Done) → AreSound net → done.net.copies ≡ net.copies → done.took ≡ [] → AllHold net done
unchanged_hold net done sound same none = record {
  hold = λ at before there. record {
    copy = before;
    there = subst (λ (copies : List Log). slice_get copies at ≡ Some before) (sym same) there;
    atoms = same_none before.ops (took_by done at) (took_none done at none);
    sound = sound at before there;
  };
  absent = λ at gone. subst (λ (copies : List Log). slice_get copies at ≡ None) (sym same) gone;
  sound = λ at copy there. sound at copy (subst (λ (copies : List Log). slice_get copies at ≡ Some copy) same there);
}

-- where a copy takes what it has already
pub repeated_hold : (net : Net) (reply : Reply) (i : ℕ) (copy : Log) → AreSound net → slice_get net.copies i ≡ Some copy → AllHold net (record { reply = reply; net = net; taker = i; took = copy.ops })
repeated_hold net reply i copy sound is = record {
  hold = λ at before there. record { copy = before; there = there; atoms = by_place at before there (i == at) refl; sound = sound at before there };
  absent = λ at gone. gone;
  sound = sound;
}
  where
    twice : (xs : List Op) → SameAtoms xs (xs ++ xs)
    twice xs atom = (λ has. atom_left xs xs atom has, λ has. one (atom_append xs xs atom has))
      where
        one : HasAtom xs atom ⊎ HasAtom xs atom → HasAtom xs atom
        one (inl a) = a
        one (inr b) = b

    by_place : (at : ℕ) (before : Log) → slice_get net.copies at ≡ Some before → (b : Bool) → (i == at) ≡ b → SameAtoms before.ops (before.ops ++ (if b then copy.ops else []))
    by_place at before there true e =
        let here : slice_get net.copies at ≡ Some copy = subst (λ n. slice_get net.copies n ≡ Some copy) (eqb-true i at e) is in
        subst (λ (c : Log). SameAtoms before.ops (before.ops ++ c.ops)) (one_there net.copies at before copy there here) (twice before.ops)
    by_place at before there false e = same_none before.ops [] refl

-- where one copy changes, and holds what it took
module _ (net : Net) (reply : Reply) (i : ℕ) (copy new : Log) (ops : List Op) (all_sound : AreSound net) (is : slice_get net.copies i ≡ Some copy) (same : SameAtoms new.ops (copy.ops ++ ops)) (new_sound : IsSound new.ops) where
  abbrev changed : Done
  changed = record { reply = reply; net = with_copy net i new; taker = i; took = ops }

  took_at : (at : ℕ) (b : Bool) → (i == at) ≡ b → took_by changed at ≡ (if b then ops else [])
  took_at at b e = ap (λ (x : Bool). if x then ops else []) e

  new_there : (at : ℕ) → (i == at) ≡ true → slice_get (slice_set net.copies i new) at ≡ Some new
  new_there at e = subst (λ n. slice_get (slice_set net.copies i new) n ≡ Some new) (eqb-true i at e) (set_here net.copies i copy new is)

  holds : (at : ℕ) (before : Log) → slice_get net.copies at ≡ Some before → (b : Bool) → (i == at) ≡ b → HoldsDone changed at before
  holds at before there true e =
      let here : slice_get net.copies at ≡ Some copy = subst (λ n. slice_get net.copies n ≡ Some copy) (eqb-true i at e) is in
      let one : before ≡ copy = one_there net.copies at before copy there here in
      record {
        copy = new;
        there = new_there at e;
        atoms = subst (λ (zs : List Op). SameAtoms new.ops (before.ops ++ zs)) (sym (took_at at true e)) (subst (λ (c : Log). SameAtoms new.ops (c.ops ++ ops)) (sym one) same);
        sound = new_sound;
      }
  holds at before there false e = record {
    copy = before;
    there = set_other net.copies i at new e ∙ there;
    atoms = same_none before.ops (took_by changed at) (took_at at false e);
    sound = all_sound at before there;
  }

  stays_sound : (at : ℕ) (c : Log) → slice_get (slice_set net.copies i new) at ≡ Some c → (b : Bool) → (i == at) ≡ b → IsSound c.ops
  stays_sound at c there true e = subst (λ (x : Log). IsSound x.ops) (one_there (slice_set net.copies i new) at new c (new_there at e) there) new_sound
  stays_sound at c there false e = all_sound at c (sym (set_other net.copies i at new e) ∙ there)

  pub changed_hold : AllHold net changed
  changed_hold = record {
    hold = λ at before there. holds at before there (i == at) refl;
    absent = λ at gone. set_nowhere net.copies i at new gone;
    sound = λ at c there. stays_sound at c there (i == at) refl;
  }
