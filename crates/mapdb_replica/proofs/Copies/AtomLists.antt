-- What lists have that are made of others, and their atoms.
use Rattle.std.proofs.Common.{◌≡◌, Some, refl, sym, ap, subst, ◌∙◌, List, [], ◌∷◌, inl, inr}
use Rattle.std.specs.Prelude.{◌⊎◌, Option, None}
use Rattle.std.specs.List.{filter_map, flat_map, cons_option}
use Rattle.mapdb_facts.proofs.States.Joins.{atom_append, atom_left, atom_right}
use Rattle.mapdb_facts.specs.Records.{IsAmong}
use Rattle.mapdb_facts.specs.State.{Atom, Gives, HasAtom}
use Rattle.mapdb_facts.specs.declared.operations.Op.{Op}

-- what a list of optional values has
some_like : {X : Type 0} → (o : Option X) (rest : List X) (y : X) → IsAmong y (cons_option o rest) → (o ≡ Some y) ⊎ IsAmong y rest
some_like None rest y h = inr h
some_like (Some x) rest y (inl e) = inl (ap Some e)
some_like (Some x) rest y (inr k) = inr k

like_some : {X : Type 0} → (o : Option X) (rest : List X) (y : X) → o ≡ Some y → IsAmong y (cons_option o rest)
like_some o rest y e = subst (λ p. IsAmong y (cons_option p rest)) (sym e) (inl refl)

like_rest : {X : Type 0} → (o : Option X) (rest : List X) (y : X) → IsAmong y rest → IsAmong y (cons_option o rest)
like_rest None rest y k = k
like_rest (Some x) rest y k = inr k

pub among_filter_map : {X Y : Type 0} → (g : X → Option Y) (xs : List X) (y : Y) → IsAmong y (filter_map g xs)
    → (x : X) × IsAmong x xs × (g x ≡ Some y)
among_filter_map g [] y h = absurd h
among_filter_map g (x ∷ xs) y h = elim (some_like (g x) (filter_map g xs) y h) [
  | inl e ↦ (x, inl refl, e)
  | inr k ↦ let found = among_filter_map g xs y k in (found.0, inr found.1, found.2)
]

pub filter_map_among : {X Y : Type 0} → (g : X → Option Y) (xs : List X) (x : X) (y : Y) → IsAmong x xs → g x ≡ Some y → IsAmong y (filter_map g xs)
filter_map_among g [] x y k e = absurd k
filter_map_among g (z ∷ xs) x y (inl same) e = like_some (g z) (filter_map g xs) y (ap g same ∙ e)
filter_map_among g (z ∷ xs) x y (inr k) e = like_rest (g z) (filter_map g xs) y (filter_map_among g xs x y k e)

-- an atom of a list is one of a member's
pub atom_of : (ops : List Op) (atom : Atom) → HasAtom ops atom → (op : Op) × IsAmong op ops × Gives op atom
atom_of [] atom h = absurd h
atom_of (op ∷ ops) atom (inl h) = (op, inl refl, h)
atom_of (op ∷ ops) atom (inr k) = let found = atom_of ops atom k in (found.0, inr found.1, found.2)

pub atom_from : (ops : List Op) (op : Op) (atom : Atom) → IsAmong op ops → Gives op atom → HasAtom ops atom
atom_from [] op atom k h = absurd k
atom_from (other ∷ ops) op atom (inl e) h = inl (subst (λ (x : Op). Gives x atom) (sym e) h)
atom_from (other ∷ ops) op atom (inr k) h = inr (atom_from ops op atom k h)

pub atom_flat_map : {X : Type 0} → (f : X → List Op) (xs : List X) (atom : Atom) → HasAtom (flat_map f xs) atom
    → (x : X) × IsAmong x xs × HasAtom (f x) atom
atom_flat_map f [] atom h = absurd h
atom_flat_map f (x ∷ xs) atom h = elim (atom_append (f x) (flat_map f xs) atom h) [
  | inl here ↦ (x, inl refl, here)
  | inr later ↦ let found = atom_flat_map f xs atom later in (found.0, inr found.1, found.2)
]

pub flat_map_atom : {X : Type 0} → (f : X → List Op) (xs : List X) (x : X) (atom : Atom) → IsAmong x xs → HasAtom (f x) atom
    → HasAtom (flat_map f xs) atom
flat_map_atom f [] x atom k h = absurd k
flat_map_atom f (y ∷ xs) x atom (inl e) h = atom_left (f y) (flat_map f xs) atom (subst (λ z. HasAtom (f z) atom) (sym e) h)
flat_map_atom f (y ∷ xs) x atom (inr k) h = atom_right (f y) (flat_map f xs) atom (flat_map_atom f xs x atom k h)
