-- Operations among others, and the records that they give.
use Rattle.std.proofs.Common.{◌≡◌, ℕ, zero, suc, Bool, true, false, Some, refl, sym, subst, ap, inl, inr, List, [], ◌∷◌, ◌++◌, drop, take}
use Rattle.std.specs.Prelude.{◌⊎◌, slice_get, if◌then◌else◌}
use Rattle.std.proofs.lemmas.Bool.{and_from, and_parts}
use Rattle.std.proofs.lemmas.List.{take-append-drop}
use Rattle.mapdb_facts.proofs.Lists.Among.{among_left, among_right}
use Rattle.mapdb_facts.specs.Adding.{is_new}
use Rattle.mapdb_facts.specs.Records.{IsAmong}
use Rattle.mapdb_facts.specs.State.{Gives, HasAtom, Rec, State, join, said}
use Rattle.mapdb_facts.specs.WellFormed.{all_formed, is_formed}
use Rattle.mapdb_facts.specs.declared.operations.Op.{Op}
use Rattle.mapdb_facts.specs.declared.operations.Op.TheVariants.{Born, Closed, Cut}
use Rattle.mapdb_facts.specs.declared.operations.Record.{Record}
use Rattle.mapdb_replica.specs.Memory.{EndsAfter, Enough, Memory, lasting}
use Rattle.mapdb_replica.specs.Replica.{news}

pub among_take : (xs : List Op) (n : ℕ) (op : Op) → IsAmong op (take n xs) → IsAmong op xs
among_take xs n op among = subst (λ (ys : List Op). IsAmong op ys) (take-append-drop n xs) (among_left (take n xs) (drop n xs) op among)

-- what memory lasts for
pub among_lasting : (memory : Memory) (xs : List Op) (op : Op) → IsAmong op (lasting memory xs) → IsAmong op xs
among_lasting Enough xs op among = among
among_lasting (EndsAfter count) xs op among = among_take xs count op among

pub among_drop : (xs : List Op) (n : ℕ) (op : Op) → IsAmong op (drop n xs) → IsAmong op xs
among_drop xs n op among = subst (λ (ys : List Op). IsAmong op ys) (take-append-drop n xs) (among_right (take n xs) (drop n xs) op among)

pub among_news : (S : State) (ops : List Op) (op : Op) → IsAmong op (news S ops) → IsAmong op ops
among_news S [] op among = among
among_news S (x ∷ xs) op among = step (is_new S x) among (among_news (join S (said x)) xs op) (among_news S xs op)
  where
    step : (b : Bool) → IsAmong op (if b then x ∷ news (join S (said x)) xs else news S xs) → (IsAmong op (news (join S (said x)) xs) → IsAmong op xs) → (IsAmong op (news S xs) → IsAmong op xs) → IsAmong op (x ∷ xs)
    step true (inl here) new old = inl here
    step true (inr later) new old = inr (new later)
    step false later new old = inr (old later)

-- a record is given where it is among the operations
pub among_atom : (ops : List Op) (r : Record) → IsAmong (Born r) ops → HasAtom ops (Rec r)
among_atom [] r among = absurd among
among_atom (op ∷ ops) r (inl here) = inl (subst (λ (x : Op). Gives x (Rec r)) (sym here) refl)
among_atom (op ∷ ops) r (inr later) = inr (among_atom ops r later)

gives_born : (op : Op) (r : Record) → Gives op (Rec r) → op ≡ Born r
gives_born (Born s) r gives = ap (λ (x : Record). Born x) gives
gives_born (Cut cut) r gives = absurd gives
gives_born (Closed space) r gives = absurd gives

pub atom_among : (ops : List Op) (r : Record) → HasAtom ops (Rec r) → IsAmong (Born r) ops
atom_among [] r has = absurd has
atom_among (op ∷ ops) r (inl gives) = inl (gives_born op r gives)
atom_among (op ∷ ops) r (inr later) = inr (atom_among ops r later)

-- all are well-formed where each is
pub formed_among : (ops : List Op) (op : Op) → all_formed ops ≡ true → IsAmong op ops → is_formed op ≡ true
formed_among [] op all among = absurd among
formed_among (x ∷ xs) op all (inl here) = subst (λ (y : Op). is_formed y ≡ true) here (and_parts (is_formed x) (all_formed xs) all).0
formed_among (x ∷ xs) op all (inr later) = formed_among xs op (and_parts (is_formed x) (all_formed xs) all).1 later

pub formed_each : (ops : List Op) → ((op : Op) → IsAmong op ops → is_formed op ≡ true) → all_formed ops ≡ true
formed_each [] each = refl
formed_each (x ∷ xs) each = and_from (is_formed x) (all_formed xs) (each x (inl refl)) (formed_each xs (λ op among. each op (inr among)))

-- a message more at the end
some_is : {X : Type 0} → (x y : X) → Some x ≡ Some y → y ≡ x
some_is x y e = cc

pub put_at : {X : Type 0} → (xs : List X) (y z : X) (i : ℕ) → slice_get (xs ++ y ∷ []) i ≡ Some z → (slice_get xs i ≡ Some z) ⊎ (z ≡ y)
put_at [] y z zero is = inr (some_is y z is)
put_at [] y z (suc i) is = inl is
put_at (x ∷ xs) y z zero is = inl is
put_at (x ∷ xs) y z (suc i) is = put_at xs y z i is
