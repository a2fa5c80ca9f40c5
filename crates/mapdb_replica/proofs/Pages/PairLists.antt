-- Lists of frames with their rights.
use Rattle.std.proofs.Common.{◌≡◌, ℕ, zero, suc, ◌+◌, ◌<◌, ◌≤◌, refl, sym, ap, ◌∙◌, List, [], ◌∷◌, ◌++◌, append_assoc, drop, get_or, length, length-drop, set, take, arith}
use Rattle.std.specs.Prelude.{◌==◌, nat_lt, if◌then◌else◌}
use Rattle.std.proofs.lemmas.Bool.{cond-false, cond-true, eq-eqb}
use Rattle.std.proofs.lemmas.Bool.Decides.{nat_tests}
use Rattle.std.proofs.lemmas.List.{drop-set, drop_more, take-append-drop, take-set, take_more}
use Rattle.mapdb_fpage.specs.RightSets.{union}
use Rattle.mapdb_fpage.specs.declared.right_sets.Rights.{Rights}
use Rattle.mapdb_replica.specs.Pairs.{Pair, with_pair}

with_pair-lower : (pair other : Pair) (rest : List Pair) → other.0 < pair.0 → with_pair pair (other ∷ rest) ≡ other ∷ with_pair pair rest
with_pair-lower pair other rest less =
    cond-false (nat_lt pair.0 other.0) (pair ∷ other ∷ rest) (if pair.0 == other.0 then (other.0, union other.1 pair.1) ∷ rest else other ∷ with_pair pair rest) (grind (arith, nat_tests))
    ∙ cond-false (pair.0 == other.0) ((other.0, union other.1 pair.1) ∷ rest) (other ∷ with_pair pair rest) (grind (arith, nat_tests))

with_pair-same : (pair other : Pair) (rest : List Pair) → other.0 ≡ pair.0 → with_pair pair (other ∷ rest) ≡ (other.0, union other.1 pair.1) ∷ rest
with_pair-same pair other rest same =
    cond-false (nat_lt pair.0 other.0) (pair ∷ other ∷ rest) (if pair.0 == other.0 then (other.0, union other.1 pair.1) ∷ rest else other ∷ with_pair pair rest) (grind (arith, nat_tests))
    ∙ cond-true (pair.0 == other.0) ((other.0, union other.1 pair.1) ∷ rest) (other ∷ with_pair pair rest) (eq-eqb pair.0 other.0 (sym same))

-- one frame more is passed
pub place-next : (pair : Pair) (pairs : List Pair) (i : ℕ) (d : Pair) → i < length pairs → (get_or pairs i d).0 < pair.0
    → with_pair pair pairs ≡ take i pairs ++ with_pair pair (drop i pairs) → with_pair pair pairs ≡ take (i + 1) pairs ++ with_pair pair (drop (i + 1) pairs)
place-next pair pairs i d within less so_far =
    so_far
    ∙ ap (λ (xs : List Pair). take i pairs ++ xs) (ap (with_pair pair) (drop_more pairs i d within) ∙ with_pair-lower pair (get_or pairs i d) (drop (i + 1) pairs) less)
    ∙ sym (append_assoc (take i pairs) (get_or pairs i d ∷ []) (with_pair pair (drop (i + 1) pairs)))
    ∙ ap (λ (xs : List Pair). xs ++ with_pair pair (drop (i + 1) pairs)) (sym (take_more pairs i d within))

-- the rights join those of the frame
pub place-same : (pair : Pair) (pairs : List Pair) (i : ℕ) (d : Pair) → i < length pairs → (get_or pairs i d).0 ≡ pair.0
    → with_pair pair pairs ≡ take i pairs ++ with_pair pair (drop i pairs) → set pairs i (pair.0, union (get_or pairs i d).1 pair.1) ≡ with_pair pair pairs
place-same pair pairs i d within same so_far =
    let joined : Pair = (pair.0, union (get_or pairs i d).1 pair.1) in
    sym (take-append-drop i (set pairs i joined))
    ∙ ap (λ (xs : List Pair). xs ++ drop i (set pairs i joined)) (take-set pairs i joined)
    ∙ ap (λ (xs : List Pair). take i pairs ++ xs)
    (drop-set pairs i joined within
    ∙ ap (λ n. (n, union (get_or pairs i d).1 pair.1) ∷ drop (i + 1) pairs) (sym same)
    ∙ sym (ap (with_pair pair) (drop_more pairs i d within) ∙ with_pair-same pair (get_or pairs i d) (drop (i + 1) pairs) same))
    ∙ sym so_far

-- what is read at a place does not depend on the default
read_same : (pairs : List Pair) (i : ℕ) (a b : Pair) → i < length pairs → get_or pairs i a ≡ get_or pairs i b
read_same [] i a b within = absurd (omega arith)
read_same (pair ∷ rest) zero a b within = refl
read_same (pair ∷ rest) (suc i) a b within = read_same rest i a b (omega arith)

-- the rights, read and written back with the frame that was asked for
pub place-joined : (frame : ℕ) (rights known : Rights) (pairs : List Pair) (i : ℕ) (a b : Pair) → i < length pairs → a ≡ get_or pairs i a → a.0 ≡ frame → b ≡ get_or pairs i b → known ≡ union b.1 rights
    → with_pair (frame, rights) pairs ≡ take i pairs ++ with_pair (frame, rights) (drop i pairs) → set pairs i (frame, known) ≡ with_pair (frame, rights) pairs
place-joined frame rights known pairs i a b within is_a same is_b joined so_far =
    let here : get_or pairs i b ≡ a = read_same pairs i b a within ∙ sym is_a in
    ap (λ (k : Rights). set pairs i (frame, k)) (joined ∙ ap (λ (p : Pair). union p.1 rights) is_b)
    ∙ place-same (frame, rights) pairs i b within (ap (λ (p : Pair). p.0) here ∙ same) so_far

-- what comes first behind a place
pub first-behind : (pairs : List Pair) (i : ℕ) (d pair : Pair) (rest : List Pair) → i < length pairs → drop i pairs ≡ pair ∷ rest → get_or pairs i d ≡ pair
first-behind pairs i d pair rest within is = let e : get_or pairs i d ∷ drop (i + 1) pairs ≡ pair ∷ rest = sym (drop_more pairs i d within) ∙ is in cc

pub nothing-behind : (pairs : List Pair) (i : ℕ) (pair : Pair) (rest : List Pair) → length pairs ≤ i → drop i pairs ≡ pair ∷ rest → ⊥
nothing-behind pairs i pair rest end is = let e : length (drop i pairs) ≡ suc (length rest) = ap length is in omega (arith, e, length-drop i pairs)
