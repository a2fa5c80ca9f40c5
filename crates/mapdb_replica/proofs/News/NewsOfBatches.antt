-- What is new of a batch, one operation after the other.
use Rattle.std.proofs.Common.{◌≡◌, ◌+◌, ◌≤◌, Bool, true, false, refl, sym, ap, subst, ◌∙◌, List, [], ◌∷◌, ◌++◌, length, arith}
use Rattle.std.specs.Prelude.{count_by, if◌then◌else◌}
use Rattle.std.proofs.lemmas.List.Sums.{sum_by-cons, sum_by-le-sum_by}
use Rattle.mapdb_facts.specs.Adding.{is_new}
use Rattle.mapdb_facts.specs.State.{State, join, said, state_of}
use Rattle.mapdb_facts.specs.declared.operations.Op.{Op}
use Rattle.mapdb_facts.proofs.States.Joins.{join_assoc, join_nothing, state_of-append}
use Rattle.mapdb_facts.proofs.States.Newness.{new_is_exact, said_old}
use Rattle.mapdb_replica.specs.Replica.{news}
use Rattle.mapdb_facts.proofs.States.Unions.{from_first}

-- what the first operations of a batch say is said, whether they are new or not
said_first : (S : State) (op : Op) (xs : List Op) → is_new S op ≡ false → join S (state_of (op ∷ xs)) ≡ join S (state_of xs)
said_first S op xs old = sym (join_assoc S (said op) (state_of xs)) ∙ ap (λ (T : State). join T (state_of xs)) (said_old S op old)

pub news-append : (S : State) (xs ys : List Op) → news S (xs ++ ys) ≡ news S xs ++ news (join S (state_of xs)) ys
news-append S [] ys = ap (λ (T : State). news T ys) (sym (join_nothing S))
news-append S (op ∷ xs) ys = step (is_new S op) refl (news-append (join S (said op)) xs ys) (news-append S xs ys)
  where
    step : (b : Bool) → is_new S op ≡ b → news (join S (said op)) (xs ++ ys) ≡ news (join S (said op)) xs ++ news (join (join S (said op)) (state_of xs)) ys → news S (xs ++ ys) ≡ news S xs ++ news (join S (state_of xs)) ys
        → (if b then op ∷ news (join S (said op)) (xs ++ ys) else news S (xs ++ ys)) ≡ (if b then op ∷ news (join S (said op)) xs else news S xs) ++ news (join S (join (said op) (state_of xs))) ys
    step true e new old =
        ap (λ (zs : List Op). op ∷ zs) new
        ∙ ap (λ (T : State). op ∷ (news (join S (said op)) xs ++ news T ys)) (join_assoc S (said op) (state_of xs))
    step false e new old = old ∙ ap (λ (T : State). news S xs ++ news T ys) (sym (said_first S op xs e))

-- what is new of a batch says with the state what all of it says
pub state-news : (S : State) (xs : List Op) → join S (state_of (news S xs)) ≡ join S (state_of xs)
state-news S [] = refl
state-news S (op ∷ xs) = step (is_new S op) refl (state-news (join S (said op)) xs) (state-news S xs)
  where
    step : (b : Bool) → is_new S op ≡ b → join (join S (said op)) (state_of (news (join S (said op)) xs)) ≡ join (join S (said op)) (state_of xs) → join S (state_of (news S xs)) ≡ join S (state_of xs)
        → join S (state_of (if b then op ∷ news (join S (said op)) xs else news S xs)) ≡ join S (join (said op) (state_of xs))
    step true e new old = sym (join_assoc S (said op) (state_of (news (join S (said op)) xs))) ∙ new ∙ join_assoc S (said op) (state_of xs)
    step false e new old = old ∙ sym (said_first S op xs e)

-- of the copy that took what is new of a batch
pub state-taken : (held xs : List Op) → state_of (held ++ news (state_of held) xs) ≡ state_of (held ++ xs)
state-taken held xs = state_of-append held (news (state_of held) xs) ∙ state-news (state_of held) xs ∙ sym (state_of-append held xs)

-- what is new at its turn was new before
pub new_before : (S T : State) (op : Op) → is_new (join S T) op ≡ true → is_new S op ≡ true
new_before S T op new =
    let found = (new_is_exact (join S T) op).0 new in
    (new_is_exact S op).1 (found.0, found.1, λ has. found.2 (from_first S T found.0 has))

fewer : (a b : Bool) → (a ≡ true → b ≡ true) → (if a then 1 else 0) ≤ (if b then 1 else 0)
fewer true b h = subst (λ (x : Bool). 1 ≤ (if x then 1 else 0)) (sym (h refl)) (omega arith)
fewer false b h = omega arith

-- not more are new at their turn than are new to begin with
pub length-news : (S : State) (xs : List Op) → length (news S xs) ≤ count_by (is_new S) xs
length-news S [] = omega arith
length-news S (op ∷ xs) = step (is_new S op) refl (length-news (join S (said op)) xs) (length-news S xs)
  where
    later : count_by (is_new (join S (said op))) xs ≤ count_by (is_new S) xs
    later = sum_by-le-sum_by _ _ xs (λ x. fewer (is_new (join S (said op)) x) (is_new S x) (new_before S (said op) x))

    counted : count_by (is_new S) (op ∷ xs) ≡ (if is_new S op then 1 else 0) + count_by (is_new S) xs
    counted = sum_by-cons (λ x. if is_new S x then 1 else 0) op xs

    step : (b : Bool) → is_new S op ≡ b → length (news (join S (said op)) xs) ≤ count_by (is_new (join S (said op))) xs → length (news S xs) ≤ count_by (is_new S) xs
        → length (if b then op ∷ news (join S (said op)) xs else news S xs) ≤ count_by (is_new S) (op ∷ xs)
    step true e new old = omega (arith, later, counted ∙ ap (λ (x : Bool). (if x then 1 else 0) + count_by (is_new S) xs) e)
    step false e new old = omega (arith, counted ∙ ap (λ (x : Bool). (if x then 1 else 0) + count_by (is_new S) xs) e)
