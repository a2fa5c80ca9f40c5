-- Operations that compare equal are the same, so that what is new is not yet listed.
use Rattle.std.proofs.Common.{◌≡◌, Bool, true, false, refl, sym, subst, List, [], ◌∷◌, inl, inr}
use Rattle.std.specs.Prelude.{◌||◌}
use Rattle.std.specs.List.{list_any}
use Rattle.std.proofs.lemmas.Bool.{true≢false}
use Rattle.mapdb_facts.specs.Adding.{is_new}
use Rattle.mapdb_facts.specs.ExactOps.{exact_op, same_op}
use Rattle.mapdb_facts.specs.State.{Atom, Gives, HasAtom, IsSound, state_of}
use Rattle.mapdb_facts.specs.declared.operations.Op.{Op}
use Rattle.mapdb_facts.proofs.Maps.Atoms.{atom_kept}
use Rattle.mapdb_facts.proofs.States.Newness.{new_is_exact}

-- what compares equal to a listed operation gives its atoms
listed_gives : (ops : List Op) (op : Op) (atom : Atom) → list_any (same_op op) ops ≡ true → Gives op atom → HasAtom ops atom
listed_gives [] op atom h gives = absurd (true≢false (sym h))
listed_gives (other ∷ ops) op atom h gives = step (same_op op other) refl h (λ later. listed_gives ops op atom later gives)
  where
    step : (b : Bool) → same_op op other ≡ b → (b || list_any (same_op op) ops) ≡ true → (list_any (same_op op) ops ≡ true → HasAtom ops atom) → HasAtom (other ∷ ops) atom
    step true e h later = inl (subst (λ (o : Op). Gives o atom) (exact_op op other e) gives)
    step false e h later = inr (later h)

-- what is new to a sound list is not listed
pub new_unlisted : (ops : List Op) (op : Op) → IsSound ops → is_new (state_of ops) op ≡ true → list_any (same_op op) ops ≡ false
new_unlisted ops op sound new = step (list_any (same_op op) ops) refl
  where
    step : (b : Bool) → list_any (same_op op) ops ≡ b → list_any (same_op op) ops ≡ false
    step false e = e
    step true e =
        let found = (new_is_exact (state_of ops) op).0 new in
        absurd (found.2 (atom_kept ops found.0 sound (listed_gives ops op found.0 e found.1)))
