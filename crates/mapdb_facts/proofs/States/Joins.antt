-- The join of states is that of lists.
use Rattle.std.proofs.Common.{◌≡◌, Bool, true, false, Some, refl, sym, ap, ◌∙◌, List, [], ◌∷◌, ◌++◌, inl, inr, ⊎_elim}
use Rattle.std.specs.Prelude.{◌||◌, ◌⊎◌, Option, None}
use mathlib.Core.Bool.{or-false, or_self}
use Rattle.mapdb_facts.specs.declared.operations.Op.{Op}
use Rattle.mapdb_facts.specs.declared.operations.Record.{Record}
use Rattle.mapdb_facts.specs.State.{Atom, Rec, State, nothing, said, first_of, join, state_of, HasAtom, SameAtoms, IsSound, ListsDoNotClash, Covers}
use Rattle.mapdb_facts.proofs.Maps.Atoms.{same_state}
use Rattle.mapdb_facts.proofs.States.Newness.{first_of_none}

first_of_assoc : (a b c : Option Record) → first_of (first_of a b) c ≡ first_of a (first_of b c)
first_of_assoc (Some r) b c = refl
first_of_assoc None b c = refl

first_of_self : (a : Option Record) → first_of a a ≡ a
first_of_self (Some r) = refl
first_of_self None = refl

or_assoc : (a b c : Bool) → ((a || b) || c) ≡ (a || (b || c))
or_assoc true b c = refl
or_assoc false b c = refl

pub join_assoc : (S T U : State) → join (join S T) U ≡ join S (join T U)
join_assoc S T U =
    same_state (join (join S T) U) (join S (join T U))
    (λ id. first_of_assoc (S.record_at id) (T.record_at id) (U.record_at id))
    (λ id page right. or_assoc (S.is_cut id page right) (T.is_cut id page right) (U.is_cut id page right))
    (λ space. or_assoc (S.is_ended space) (T.is_ended space) (U.is_ended space))

pub join_self : (S : State) → join S S ≡ S
join_self S =
    same_state (join S S) S (λ id. first_of_self (S.record_at id)) (λ id page right. or_self (S.is_cut id page right)) (λ space. or_self (S.is_ended space))

-- what both lists say together is the join of what they say
pub state_of-append : (xs ys : List Op) → state_of (xs ++ ys) ≡ join (state_of xs) (state_of ys)
state_of-append [] ys = refl
state_of-append (x ∷ xs) ys = ap (join (said x)) (state_of-append xs ys) ∙ sym (join_assoc (said x) (state_of xs) (state_of ys))

pub atom_append : (xs ys : List Op) (atom : Atom) → HasAtom (xs ++ ys) atom → HasAtom xs atom ⊎ HasAtom ys atom
atom_append [] ys atom h = inr h
atom_append (x ∷ xs) ys atom (inl here) = inl (inl here)
atom_append (x ∷ xs) ys atom (inr later) = ⊎_elim (λ (h : HasAtom xs atom). inl (inr h)) (λ (h : HasAtom ys atom). inr h) (atom_append xs ys atom later)

pub atom_left : (xs ys : List Op) (atom : Atom) → HasAtom xs atom → HasAtom (xs ++ ys) atom
atom_left [] ys atom h = absurd h
atom_left (x ∷ xs) ys atom (inl here) = inl here
atom_left (x ∷ xs) ys atom (inr later) = inr (atom_left xs ys atom later)

pub atom_right : (xs ys : List Op) (atom : Atom) → HasAtom ys atom → HasAtom (xs ++ ys) atom
atom_right [] ys atom h = h
atom_right (x ∷ xs) ys atom h = inr (atom_right xs ys atom h)

pub join_is_least : (xs ys zs : List Op) → Covers (xs ++ ys) xs × Covers (xs ++ ys) ys × (Covers zs xs → Covers zs ys → Covers zs (xs ++ ys))
join_is_least xs ys zs = (
  atom_left xs ys,
  atom_right xs ys,
  λ left right atom h. ⊎_elim (λ (k : HasAtom xs atom). left atom k) (λ (k : HasAtom ys atom). right atom k) (atom_append xs ys atom h),
)

-- in either order the atoms are the same
pub turned : (xs ys : List Op) → SameAtoms (xs ++ ys) (ys ++ xs)
turned xs ys atom = (turn xs ys, turn ys xs)
  where
    turn : (us vs : List Op) → HasAtom (us ++ vs) atom → HasAtom (vs ++ us) atom
    turn us vs h = ⊎_elim (λ (k : HasAtom us atom). atom_right vs us atom k) (λ (k : HasAtom vs atom). atom_left vs us atom k) (atom_append us vs atom h)

sound_append : (xs ys : List Op) → IsSound xs → IsSound ys → ListsDoNotClash xs ys → IsSound (xs ++ ys)
sound_append xs ys sound_xs sound_ys agree r s in_r in_s same =
    elim (atom_append xs ys (Rec r) in_r) [
      | inl r_left ↦
          elim (atom_append xs ys (Rec s) in_s) [
            | inl s_left ↦ sound_xs r s r_left s_left same
            | inr s_right ↦ agree r s r_left s_right same
          ]
      | inr r_right ↦
          elim (atom_append xs ys (Rec s) in_s) [
            | inl s_left ↦ sym (agree s r s_left r_right (sym same))
            | inr s_right ↦ sound_ys r s r_right s_right same
          ]
    ]

pub clash_is_exact : (xs ys : List Op) → IsSound xs → IsSound ys → (ListsDoNotClash xs ys → IsSound (xs ++ ys)) × ((zs : List Op) → IsSound zs → Covers zs xs → Covers zs ys → ListsDoNotClash xs ys)
clash_is_exact xs ys sound_xs sound_ys = (
  sound_append xs ys sound_xs sound_ys,
  λ zs sound left right r s in_r in_s same. sound r s (left (Rec r) in_r) (right (Rec s) in_s) same,
)

pub join_nothing : (S : State) → join S nothing ≡ S
join_nothing S =
    same_state (join S nothing) S (λ id. first_of_none (S.record_at id)) (λ id page right. or-false (S.is_cut id page right)) (λ space. or-false (S.is_ended space))

-- one operation more at the end of a list
pub state_of-put : (ops : List Op) (op : Op) → state_of (ops ++ op ∷ []) ≡ join (state_of ops) (said op)
state_of-put ops op = state_of-append ops (op ∷ []) ∙ ap (join (state_of ops)) (join_nothing (said op))
