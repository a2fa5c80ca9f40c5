-- The atoms of what is new of a list.
use Rattle.std.proofs.Common.{◌≡◌, Bool, true, false, refl, sym, subst, ◌∙◌, inl, inr, List, [], ◌∷◌, ◌++◌, append_assoc, ap}
use Rattle.std.specs.Prelude.{◌⊎◌, Option, Some, None, if◌then◌else◌}
use Rattle.std.proofs.lemmas.Bool.{false≢true, true≢false}
use Rattle.mapdb_facts.specs.Adding.{is_held, is_new, same_record}
use Rattle.mapdb_facts.specs.Exact.{exact_record}
use Rattle.mapdb_facts.specs.State.{Atom, End, Gives, Has, HasAtom, Rec, Rev, SameAtoms, State, join, said, state_of}
use Rattle.mapdb_facts.specs.declared.operations.Op.{Op}
use Rattle.mapdb_facts.specs.declared.operations.Record.{Record}
use Rattle.mapdb_facts.proofs.Maps.Atoms.{atom_held}
use Rattle.mapdb_facts.proofs.States.Joins.{atom_append, atom_left, atom_right, state_of-put}
use Rattle.mapdb_facts.proofs.States.Newness.{new_is_exact}
use Rattle.mapdb_facts.proofs.RecordLemmas.SameRecords.{same_record_itself}
use Rattle.mapdb_replica.specs.Replica.{news}
use Rattle.mapdb_replica.specs.Sound.{NewsGiveTheRest}

-- each part of an atom is held or is not
has_or_not : (S : State) (atom : Atom) → Has S atom ⊎ (Has S atom → ⊥)
has_or_not S (Rec r) = by_option (S.record_at r.id)
  where
    no_record : None ≡ Some r → ⊥
    no_record e = cc

    by_same : (s : Record) (b : Bool) → same_record s r ≡ b → (Some s ≡ Some r) ⊎ (Some s ≡ Some r → ⊥)
    by_same s true e = inl (ap Some (exact_record s r e))
    by_same s false e = inr (λ same. false≢true (sym e ∙ ap (λ (o : Option Record). is_held o r) same ∙ itself))
      where
        itself : same_record r r ≡ true
        itself = same_record_itself r

    by_option : (o : Option Record) → (o ≡ Some r) ⊎ (o ≡ Some r → ⊥)
    by_option None = inr no_record
    by_option (Some s) = by_same s (same_record s r) refl
has_or_not S (Rev id page right) = by_bool (S.is_cut id page right)
  where
    by_bool : (b : Bool) → (b ≡ true) ⊎ (b ≡ true → ⊥)
    by_bool true = inl refl
    by_bool false = inr false≢true
has_or_not S (End space) = by_bool (S.is_ended space)
  where
    by_bool : (b : Bool) → (b ≡ true) ⊎ (b ≡ true → ⊥)
    by_bool true = inl refl
    by_bool false = inr false≢true

-- all that an operation says which is not new is held
pub old_known : (S : State) (op : Op) (atom : Atom) → is_new S op ≡ false → Gives op atom → Has S atom
old_known S op atom old gives = by_cases (has_or_not S atom)
  where
    by_cases : Has S atom ⊎ (Has S atom → ⊥) → Has S atom
    by_cases (inl yet) = yet
    by_cases (inr lacks) = absurd (true≢false (sym ((new_is_exact S op).1 (atom, gives, lacks)) ∙ old))

-- what is new is of the list
pub news_among : (S : State) (ops : List Op) (atom : Atom) → HasAtom (news S ops) atom → HasAtom ops atom
news_among S [] atom has = has
news_among S (op ∷ ops) atom has = step (is_new S op) has (news_among (join S (said op)) ops atom) (news_among S ops atom)
  where
    step : (b : Bool) → HasAtom (if b then op ∷ news (join S (said op)) ops else news S ops) atom → (HasAtom (news (join S (said op)) ops) atom → HasAtom ops atom) → (HasAtom (news S ops) atom → HasAtom ops atom) → HasAtom (op ∷ ops) atom
    step true (inl gives) new old = inl gives
    step true (inr later) new old = inr (new later)
    step false later new old = inr (old later)

-- one operation more is held
more_held : (held ops : List Op) (op : Op) → (held ++ op ∷ []) ++ ops ≡ held ++ op ∷ ops
more_held held ops op = append_assoc held (op ∷ []) ops

step_new : (held rest ops : List Op) (op : Op) → SameAtoms ((held ++ op ∷ []) ++ rest) ((held ++ op ∷ []) ++ ops) → SameAtoms (held ++ op ∷ rest) (held ++ op ∷ ops)
step_new held rest ops op same =
    subst (λ (xs : List Op). SameAtoms xs (held ++ op ∷ ops)) (more_held held rest op)
    (subst (λ (ys : List Op). SameAtoms ((held ++ op ∷ []) ++ rest) ys) (more_held held ops op) same)

step_old : (held rest ops : List Op) (op : Op) → is_new (state_of held) op ≡ false → SameAtoms (held ++ rest) (held ++ ops) → SameAtoms (held ++ rest) (held ++ op ∷ ops)
step_old held rest ops op old same atom = (λ has. forth ((same atom).0 has), λ has. (same atom).1 (back (atom_append held (op ∷ ops) atom has)))
  where
    forth : HasAtom (held ++ ops) atom → HasAtom (held ++ op ∷ ops) atom
    forth has = by_part (atom_append held ops atom has)
      where
        by_part : HasAtom held atom ⊎ HasAtom ops atom → HasAtom (held ++ op ∷ ops) atom
        by_part (inl before) = atom_left held (op ∷ ops) atom before
        by_part (inr later) = atom_right held (op ∷ ops) atom (inr later)

    back : HasAtom held atom ⊎ HasAtom (op ∷ ops) atom → HasAtom (held ++ ops) atom
    back (inl before) = atom_left held ops atom before
    back (inr (inl gives)) = atom_left held ops atom (atom_held held atom (old_known (state_of held) op atom old gives))
    back (inr (inr later)) = atom_right held ops atom later

pub same_itself : (xs : List Op) → SameAtoms xs xs
same_itself xs atom = (λ has. has, λ has. has)

pub news_give : NewsGiveTheRest
news_give held [] = same_itself (held ++ [])
news_give held (op ∷ ops) =
    step (is_new (state_of held) op) refl
    (subst (λ (S : State). SameAtoms ((held ++ op ∷ []) ++ news S ops) ((held ++ op ∷ []) ++ ops)) (state_of-put held op) (news_give (held ++ op ∷ []) ops))
    (news_give held ops)
  where
    step : (b : Bool) → is_new (state_of held) op ≡ b → SameAtoms ((held ++ op ∷ []) ++ news (join (state_of held) (said op)) ops) ((held ++ op ∷ []) ++ ops) → SameAtoms (held ++ news (state_of held) ops) (held ++ ops)
        → SameAtoms (held ++ (if b then op ∷ news (join (state_of held) (said op)) ops else news (state_of held) ops)) (held ++ op ∷ ops)
    step true e new old = step_new held (news (join (state_of held) (said op)) ops) ops op new
    step false e new old = step_old held (news (state_of held) ops) ops op e old
