-- Copies compare by their atoms, and the same atoms look alike.
use Rattle.std.proofs.Common.{◌≡◌, Bool, true, false, refl, ap, sym, ◌∙◌, inl, inr, List, [], ◌∷◌, slice_get}
use Rattle.std.specs.Prelude.{◌↔◌, IsTrue, not}
use Rattle.std.proofs.lemmas.Bool.{and_from, and_parts, not-true}
use Rattle.mapdb_facts.specs.Adding.{is_new}
use Rattle.mapdb_facts.specs.Records.{records_of}
use Rattle.mapdb_facts.specs.State.{Atom, Covers, Gives, Has, HasAtom, IsSound, State, state_of}
use Rattle.mapdb_facts.specs.declared.operations.Op.{Op}
use Rattle.mapdb_facts.proofs.RecordLemmas.Ascending.{records_of-state}
use Rattle.mapdb_facts.proofs.Maps.Atoms.{atom_held, atom_kept, state_of_same_atoms}
use Rattle.mapdb_facts.proofs.States.Newness.{new_is_exact}
use Rattle.mapdb_rights.specs.Frame.{frame_at}
use Rattle.mapdb_rights.specs.Right.{rights_at}
use Rattle.mapdb_replica.specs.Agreement.{AgreementIsOfAtoms, knows_all}
use Rattle.mapdb_replica.specs.Issue.{holders}
use Rattle.mapdb_replica.specs.Pairs.{page_rights, pairs_from}
use Rattle.mapdb_replica.specs.Served.{holder_pairs, served, with_listed}
use Rattle.mapdb_replica.proofs.News.NewsAtoms.{old_known}

-- an operation whose atoms are all held is not new
old_from : (S : State) (op : Op) → ((atom : Atom) → Gives op atom → Has S atom) → is_new S op ≡ false
old_from S op known = by_new (is_new S op) refl
  where
    by_new : (b : Bool) → is_new S op ≡ b → is_new S op ≡ false
    by_new false e = e
    by_new true e = let found = (new_is_exact S op).0 e in absurd (found.2 (known found.0 found.1))

-- where all atoms are held, nothing is new
pub covers_known : (xs ys : List Op) → IsSound xs → Covers xs ys → knows_all xs ys ≡ true
covers_known xs [] sound all = refl
covers_known xs (op ∷ ys) sound all =
    and_from (not (is_new (state_of xs) op)) (knows_all xs ys)
    (ap not (old_from (state_of xs) op (λ atom gives. atom_kept xs atom sound (all atom (inl gives)))))
    (covers_known xs ys sound (λ atom has. all atom (inr has)))

-- where nothing is new, all atoms are held
pub known_covers : (xs ys : List Op) → knows_all xs ys ≡ true → Covers xs ys
known_covers xs [] known atom has = absurd has
known_covers xs (op ∷ ys) known atom has = by_part (and_parts (not (is_new (state_of xs) op)) (knows_all xs ys) known) has (λ later. known_covers xs ys later atom)
  where
    by_part : (not (is_new (state_of xs) op) ≡ true) × (knows_all xs ys ≡ true) → HasAtom (op ∷ ys) atom → (knows_all xs ys ≡ true → HasAtom ys atom → HasAtom xs atom) → HasAtom xs atom
    by_part parts (inl gives) rest = atom_held xs atom (old_known (state_of xs) op atom (not-true (is_new (state_of xs) op) parts.0) gives)
    by_part parts (inr later) rest = rest parts.1 later

-- an answer that is whether nothing is new, is yes exactly where all atoms are held
pub known_exact : (xs ys : List Op) (answer : Bool) → IsSound xs → answer ≡ knows_all xs ys → IsTrue answer ↔ Covers xs ys
known_exact xs ys answer sound is = (λ yes. known_covers xs ys (sym is ∙ yes), λ all. is ∙ covers_known xs ys sound all)

pub look_alike : AgreementIsOfAtoms
unfolding page_rights served
look_alike xs ys sound same =
    let state : state_of xs ≡ state_of ys = state_of_same_atoms xs ys sound same in
    let records : records_of xs ≡ records_of ys = records_of-state xs ys state in
    record {
      rights = λ space page. λ i. pairs_from (state i) page [] (holders (records i) space);
      served = λ space page. λ i. with_listed (slice_get (holder_pairs (state i) page (holders (records i) space)) 0) (pairs_from (state i) page [] (holders (records i) space));
      record_rights = λ id page. ap (λ (S : State). rights_at S id page) state;
      frames = λ id page. ap (λ (S : State). frame_at S id page) state;
    }
