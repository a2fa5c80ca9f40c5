-- Lists of starts without those that change nothing.
use Rattle.std.specs.Prelude.{◌≡◌, ℕ, ◌≤◌, ◌+◌, List, [], ◌∷◌, ◌++◌, refl}
use Rattle.std.proofs.Common.{sym, ◌∙◌, ap, arith, inl, inr}
use Rattle.std.specs.List.{AllByRecursion}
use Rattle.std.proofs.lemmas.Bool.{cases_eq, cases_lt, eq-eqb, ne_eqb}
use Rattle.std.proofs.lemmas.List.{append-nil}
use Rattle.mapdb_join.specs.Runs.{Ascends, Changes, bits_after, last_bits}
use Rattle.mapdb_join.specs.Tidy.{tidy}
use Rattle.mapdb_join.specs.declared.runs.starts.Start.{Start}
use Rattle.mapdb_join.specs.Lawful.Stepping.{below_all, here, there}

pub dropped : (before : ℕ) (s : Start) (rest : List Start) → s.bits ≡ before → tidy before (s ∷ rest) ≡ tidy before rest
dropped before s rest e = rw (eq-eqb s.bits before e) refl

pub kept : (before : ℕ) (s : Start) (rest : List Start) → (s.bits ≡ before → ⊥) → tidy before (s ∷ rest) ≡ s ∷ tidy s.bits rest
kept before s rest n = rw (ne_eqb s.bits before n) refl

-- a start with the bits that are in front of it tells nothing
unchanged : (before : ℕ) (s : Start) (rest : List Start) (page : ℕ) → s.bits ≡ before → Ascends (s.page + 1) rest →
    bits_after before rest page ≡ bits_after before (s ∷ rest) page
unchanged before s rest page e a = elim (cases_lt page s.page) [
  | inl p ↦ below_all before (s.page + 1) rest page a (omega arith) ∙ sym (here before s rest page p)
  | inr p ↦ ap (λ b. bits_after b rest page) (sym e) ∙ sym (there before s rest page p)
]

pub tidy_bits : (before least : ℕ) (xs : List Start) (page : ℕ) → Ascends least xs →
    bits_after before (tidy before xs) page ≡ bits_after before xs page
tidy_bits before least [] page a = refl
tidy_bits before least (s ∷ rest) page a = elim (cases_eq s.bits before) [
  | inl e ↦ rw (dropped before s rest e) (tidy_bits before (s.page + 1) rest page a.1 ∙ unchanged before s rest page e a.1)
  | inr n ↦ rw (kept before s rest n) (elim (cases_lt page s.page) [
    | inl p ↦ here before s (tidy s.bits rest) page p ∙ sym (here before s rest page p)
    | inr p ↦ there before s (tidy s.bits rest) page p ∙ tidy_bits s.bits (s.page + 1) rest page a.1 ∙ sym (there before s rest page p)
  ])
]

pub weaken : (low least : ℕ) (xs : List Start) → low ≤ least → Ascends least xs → Ascends low xs
weaken low least [] le a = tt
weaken low least (s ∷ rest) le a = (let l : least ≤ s.page = a.0 in omega arith, a.1)

pub tidy_ascends : (before least : ℕ) (xs : List Start) → Ascends least xs → Ascends least (tidy before xs)
tidy_ascends before least [] a = tt
tidy_ascends before least (s ∷ rest) a = elim (cases_eq s.bits before) [
  | inl e ↦ rw (dropped before s rest e) (weaken least (s.page + 1) (tidy before rest) (let l : least ≤ s.page = a.0 in omega arith) (tidy_ascends before (s.page + 1) rest a.1))
  | inr n ↦ rw (kept before s rest n) (a.0, tidy_ascends s.bits (s.page + 1) rest a.1)
]

pub tidy_changes : (before : ℕ) (xs : List Start) → Changes before (tidy before xs)
tidy_changes before [] = tt
tidy_changes before (s ∷ rest) = elim (cases_eq s.bits before) [
  | inl e ↦ rw (dropped before s rest e) (tidy_changes before rest)
  | inr n ↦ rw (kept before s rest n) (n, tidy_changes s.bits rest)
]

pub tidy_last : (before : ℕ) (xs : List Start) → last_bits before (tidy before xs) ≡ last_bits before xs
tidy_last before [] = refl
tidy_last before (s ∷ rest) = elim (cases_eq s.bits before) [
  | inl e ↦ rw (dropped before s rest e) (tidy_last before rest ∙ ap (λ b. last_bits b rest) (sym e))
  | inr n ↦ rw (kept before s rest n) (tidy_last s.bits rest)
]

pub tidy_all : (P : Start → Type 0) (before : ℕ) (xs : List Start) → AllByRecursion P xs → AllByRecursion P (tidy before xs)
tidy_all P before [] h = tt
tidy_all P before (s ∷ rest) h = elim (cases_eq s.bits before) [
  | inl e ↦ rw (dropped before s rest e) (tidy_all P before rest h.1)
  | inr n ↦ rw (kept before s rest n) (h.0, tidy_all P s.bits rest h.1)
]

-- where each start changes the bits, each stays
pub tidy_same : (before : ℕ) (xs : List Start) → Changes before xs → tidy before xs ≡ xs
tidy_same before [] h = refl
tidy_same before (s ∷ rest) h = rw (kept before s rest h.0) (ap (λ l. s ∷ l) (tidy_same s.bits rest h.1))

pub tidy_append : (before : ℕ) (xs ys : List Start) →
    tidy before (xs ++ ys) ≡ tidy before xs ++ tidy (last_bits before xs) ys
tidy_append before [] ys = refl
tidy_append before (s ∷ rest) ys = elim (cases_eq s.bits before) [
  | inl e ↦ rw (dropped before s rest e, dropped before s (rest ++ ys) e) (tidy_append before rest ys ∙ ap (λ b. tidy before rest ++ tidy (last_bits b rest) ys) (sym e))
  | inr n ↦ rw (kept before s rest n, kept before s (rest ++ ys) n) (ap (λ l. s ∷ l) (tidy_append s.bits rest ys))
]

pub last_append : (before : ℕ) (xs ys : List Start) → last_bits before (xs ++ ys) ≡ last_bits (last_bits before xs) ys
last_append before [] ys = refl
last_append before (s ∷ rest) ys = last_append s.bits rest ys

-- one start more, which changes the bits
pub put_new : (before : ℕ) (xs ys : List Start) (s : Start) → ys ≡ tidy before xs → (last_bits before ys ≡ s.bits → ⊥) →
    ys ++ s ∷ [] ≡ tidy before (xs ++ s ∷ [])
put_new before xs ys s e n =
    ap (λ l. l ++ s ∷ []) e
    ∙ ap (λ l. tidy before xs ++ l) (sym (kept (last_bits before xs) s [] (λ h. n (ap (last_bits before) e ∙ tidy_last before xs ∙ sym h))))
    ∙ sym (tidy_append before xs (s ∷ []))

-- one start more, which does not
pub put_same : (before : ℕ) (xs ys : List Start) (s : Start) → ys ≡ tidy before xs → last_bits before ys ≡ s.bits →
    ys ≡ tidy before (xs ++ s ∷ [])
put_same before xs ys s e h =
    e ∙ sym (append-nil (tidy before xs))
    ∙ ap (λ l. tidy before xs ++ l) (sym (dropped (last_bits before xs) s [] (sym h ∙ ap (last_bits before) e ∙ tidy_last before xs)))
    ∙ sym (tidy_append before xs (s ∷ []))
