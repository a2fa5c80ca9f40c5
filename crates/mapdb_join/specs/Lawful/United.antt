-- The laws of `Merge` for runs.
use Rattle.std.specs.Prelude.{◌≡◌, ℕ, zero, suc, true, ◌||◌, ◌≤◌, ◌<◌, ◌+◌, nat_lt, max, List, [], ◌∷◌, ◌++◌, map, bit_or, refl}
use Rattle.std.proofs.Common.{sym, ◌∙◌, ap, subst, arith, inl, inr}
use Rattle.std.specs.List.{AllByRecursion, Contains, range_with_len}
use Rattle.std.proofs.lemmas.Bool.{and_parts, cases_eq, cases_lt, le-ltb, lt-ltb, ltb-true}
use Rattle.std.proofs.lemmas.Nat.{or_lt}
use Rattle.std.proofs.lemmas.List.Elements.{Contains-append_left, Contains-append_right}
use Rattle.std.specs.Int.Bits.{or_zero_r}
use Rattle.mapdb_join.specs.Atoms.{Clashes, IsUnion}
use Rattle.mapdb_join.specs.Bits.{has_bit}
use Rattle.mapdb_join.specs.Lawful.Entries.{contains_mapped}
use Rattle.mapdb_join.specs.Lawful.Bits.{finite_bits, has_or, zero_none}
use Rattle.mapdb_join.specs.declared.runs.bounds.TheConstants.{BITS_LIMIT, RUN_LIMIT}
use Rattle.mapdb_join.specs.Runs.{Ascends, IsBounded, IsRuns, bits_after, has_at, last_bits, last_page}
use Rattle.mapdb_join.specs.Tidy.{tidy}
use Rattle.mapdb_join.specs.declared.runs.starts.Start.{Start}
use Rattle.mapdb_join.specs.Lawful.Stepping.{below_all, here, there}
use Rattle.mapdb_join.specs.Lawful.Tidying.{tidy_all, tidy_ascends, tidy_bits, tidy_changes, tidy_last}

-- the bits of the pages below one, each with its page
pub atoms_below : List Start → ℕ → List (ℕ × ℕ)
atoms_below xs zero = []
atoms_below xs (suc n) = map (λ bit. (n, bit)) (range_with_len 0 (bits_after 0 xs n)) ++ atoms_below xs n

-- the bits of all pages, each with its page
abbrev pub atoms_of : List Start → List (ℕ × ℕ)
atoms_of xs = atoms_below xs (last_page 0 xs)

in_atoms : (xs : List Start) (n page bit : ℕ) → page < n → has_bit (bits_after 0 xs page) bit ≡ true →
    Contains (atoms_below xs n) (page, bit)
unfolding atoms_below
in_atoms xs zero page bit h has = absurd (omega arith)
in_atoms xs (suc n) page bit h has = elim (cases_eq page n) [
  | inl e ↦ Contains-append_left _ _ _ (subst (λ q. Contains {X = ℕ × ℕ} (map (λ b. (n, b)) (range_with_len 0 (bits_after 0 xs n))) (q, bit)) (sym e) (let f : ℕ → ℕ × ℕ = λ b. (n, b) in contains_mapped f (range_with_len 0 (bits_after 0 xs n)) bit (finite_bits (bits_after 0 xs n) bit (ap (λ q. has_bit (bits_after 0 xs q) bit) (sym e) ∙ has))))
  | inr d ↦ Contains-append_right _ _ _ (in_atoms xs n page bit (omega arith) has)
]

-- each atom stands in the list
pub finite_atoms : (xs : List Start) (p : ℕ × ℕ) → has_at xs p ≡ true → Contains (atoms_of xs) p
finite_atoms xs p h =
    let q = and_parts (nat_lt p.0 (last_page 0 xs)) (has_bit (bits_after 0 xs p.0) p.1) h in
    in_atoms xs (last_page 0 xs) p.0 p.1 (ltb-true p.0 (last_page 0 xs) q.0) q.1

-- a start for each of so many pages from one on, and one behind them
pub pages_of : (ℕ → ℕ) → ℕ → ℕ → List Start
pages_of f first zero = record { page = first; bits = 0 } ∷ []
pages_of f first (suc n) = record { page = first; bits = f first } ∷ pages_of f (first + 1) n

pages_ascend : (f : ℕ → ℕ) (first n : ℕ) → Ascends first (pages_of f first n)
unfolding pages_of
pages_ascend f first zero = (omega arith, tt)
pages_ascend f first (suc n) = (omega arith, pages_ascend f (first + 1) n)

pages_last : (f : ℕ → ℕ) (first n before : ℕ) → last_bits before (pages_of f first n) ≡ 0
unfolding pages_of
pages_last f first zero before = refl
pages_last f first (suc n) before = pages_last f (first + 1) n (f first)

pages_bounded : (f : ℕ → ℕ) (first n : ℕ) → first + n ≤ RUN_LIMIT → ((page : ℕ) → f page < BITS_LIMIT) →
    AllByRecursion IsBounded (pages_of f first n)
unfolding pages_of
pages_bounded f first zero limit small = ((omega arith, omega arith), tt)
pages_bounded f first (suc n) limit small = ((omega arith, small first), pages_bounded f (first + 1) n (omega arith) small)

pages_bits : (f : ℕ → ℕ) (first n before page : ℕ) → first ≤ page → page < first + n →
    bits_after before (pages_of f first n) page ≡ f page
unfolding pages_of
pages_bits f first zero before page lo hi = absurd (omega arith)
pages_bits f first (suc n) before page lo hi =
    there before (record { page = first; bits = f first }) (pages_of f (first + 1) n) page lo
    ∙ elim (cases_eq page first) [
      | inl e ↦ below_all (f first) (first + 1) (pages_of f (first + 1) n) page (pages_ascend f (first + 1) n) (omega arith) ∙ ap f (sym e)
      | inr d ↦ pages_bits f (first + 1) n (f first) page (omega arith) (omega arith)
    ]

pages_behind : (f : ℕ → ℕ) (first n before page : ℕ) → first + n ≤ page →
    bits_after before (pages_of f first n) page ≡ 0
unfolding pages_of
pages_behind f first zero before page h = there before (record { page = first; bits = 0 }) [] page (omega arith)
pages_behind f first (suc n) before page h =
    there before (record { page = first; bits = f first }) (pages_of f (first + 1) n) page (omega arith)
    ∙ pages_behind f (first + 1) n (f first) page (omega arith)

last_rises : (end least : ℕ) (xs : List Start) → Ascends least xs → end ≤ least → end ≤ last_page end xs
last_rises end least [] a h = omega arith
last_rises end least (s ∷ rest) a h =
    let l : least ≤ s.page = a.0 in
    let k = last_rises s.page (s.page + 1) rest a.1 (omega arith) in
    omega (arith, k)

-- pages from the last start on
from_last : (before end least : ℕ) (xs : List Start) (page : ℕ) → Ascends least xs → last_page end xs ≤ page →
    bits_after before xs page ≡ last_bits before xs
from_last before end least [] page a h = refl
from_last before end least (s ∷ rest) page a h =
    let k = last_rises s.page (s.page + 1) rest a.1 (omega arith) in
    there before s rest page (omega (arith, k, h)) ∙ from_last s.bits s.page (s.page + 1) rest page a.1 h

last_small : (end : ℕ) (xs : List Start) → end ≤ RUN_LIMIT → AllByRecursion IsBounded xs → last_page end xs ≤ RUN_LIMIT
last_small end [] h all = h
last_small end (s ∷ rest) h all = last_small s.page rest all.0.0 all.1

-- from the last start on, and so from the limit on, there is nothing
pub nothing_from : (xs : List Start) (page : ℕ) → IsRuns xs → last_page 0 xs ≤ page → bits_after 0 xs page ≡ 0
nothing_from xs page r h = from_last 0 0 0 xs page r.ascending h ∙ r.ended

pub beyond : (xs : List Start) (page : ℕ) → IsRuns xs → RUN_LIMIT ≤ page → bits_after 0 xs page ≡ 0
beyond xs page r h = let k = last_small 0 xs (omega arith) r.bounded in nothing_from xs page r (omega (arith, k, h))

-- what a page has is told by its bits
pub has_is : (xs : List Start) (p : ℕ × ℕ) → IsRuns xs → has_at xs p ≡ has_bit (bits_after 0 xs p.0) p.1
has_is xs p r = elim (cases_lt p.0 (last_page 0 xs)) [
  | inl l ↦ rw (lt-ltb p.0 (last_page 0 xs) l) refl
  | inr l ↦ rw (le-ltb p.0 (last_page 0 xs) l) (sym (zero_none (bits_after 0 xs p.0) (nothing_from xs p.0 r l) p.1))
]

-- the bits of a page are small
pub bits_small : (before : ℕ) (xs : List Start) (page : ℕ) → before < BITS_LIMIT → AllByRecursion IsBounded xs →
    bits_after before xs page < BITS_LIMIT
bits_small before [] page h all = h
bits_small before (s ∷ rest) page h all = elim (cases_lt page s.page) [
  | inl l ↦ subst (λ b. b < BITS_LIMIT) (sym (here before s rest page l)) h
  | inr l ↦ subst (λ b. b < BITS_LIMIT) (sym (there before s rest page l)) (bits_small s.bits rest page all.0.1 all.1)
]

module _ (a b : List Start) (p : IsRuns a) (q : IsRuns b) where
  both : ℕ → ℕ
  both page = bit_or (bits_after 0 a page) (bits_after 0 b page)

  united : List Start
  united = tidy 0 (pages_of both 0 (max (last_page 0 a) (last_page 0 b)))

  both_small : (page : ℕ) → both page < BITS_LIMIT
  unfolding both
  both_small page = or_lt 3 _ _ (bits_small 0 a page (omega arith) p.bounded) (bits_small 0 b page (omega arith) q.bounded)

  both_nothing : (page : ℕ) → last_page 0 a ≤ page → last_page 0 b ≤ page → both page ≡ 0
  unfolding both
  both_nothing page h k =
      ap (λ x. bit_or x (bits_after 0 b page)) (nothing_from a page p h) ∙ ap (bit_or 0) (nothing_from b page q k) ∙ or_zero_r 0

  united_runs : IsRuns united
  unfolding united
  united_runs =
      let n = max (last_page 0 a) (last_page 0 b) in
      let k = last_small 0 a (omega arith) p.bounded in
      let l = last_small 0 b (omega arith) q.bounded in
      record {
        ascending = tidy_ascends 0 0 (pages_of both 0 n) (pages_ascend both 0 n);
        maximal = tidy_changes 0 (pages_of both 0 n);
        ended = tidy_last 0 (pages_of both 0 n) ∙ pages_last both 0 n 0;
        bounded = tidy_all IsBounded 0 (pages_of both 0 n) (pages_bounded both 0 n (omega (arith, k, l)) both_small);
      }

  united_bits : (page : ℕ) → bits_after 0 united page ≡ both page
  unfolding united
  united_bits page =
      let n = max (last_page 0 a) (last_page 0 b) in
      tidy_bits 0 0 (pages_of both 0 n) page (pages_ascend both 0 n)
      ∙ elim (cases_lt page (max (last_page 0 a) (last_page 0 b))) [
        | inl h ↦ pages_bits both 0 n 0 page (omega arith) (omega arith)
        | inr h ↦ pages_behind both 0 n 0 page (omega arith) ∙ sym (both_nothing page (omega arith) (omega arith))
      ]

  united_has : IsUnion has_at a b united
  unfolding both
  united_has x =
      has_is united x united_runs ∙ ap (λ n. has_bit n x.1) (united_bits x.0) ∙ has_or (bits_after 0 a x.0) (bits_after 0 b x.0) x.1
      ∙ ap (λ t. t || has_bit (bits_after 0 b x.0) x.1) (sym (has_is a x p)) ∙ ap (λ t. has_at a x || t) (sym (has_is b x q))

-- two lists have a union
pub joined_runs : (a b : List Start) → IsRuns a → IsRuns b → (Clashes has_at (λ _ _. ⊥) a b → ⊥) →
    (c : List Start) × IsRuns c × IsUnion has_at a b c
joined_runs a b p q h = (united a b p q, united_runs a b p q, united_has a b p q)
