-- How many starts are below a page.
use Rattle.std.specs.Prelude.{◌≡◌, ℕ, zero, suc, true, false, ◌≤◌, ◌<◌, ◌+◌, ◌-◌, List, [], ◌∷◌, length, take, drop, refl}
use Rattle.std.proofs.Common.{sym, ◌∙◌, ap, arith, get_or, ltb, inl, inr}
use Rattle.std.proofs.lemmas.Bool.{cases_lt, le-ltb, lt-ltb}
use Rattle.std.specs.List.Sorted.{IsNonDecreasingBy, IsPartitionPoint}
use Rattle.mapdb_join.specs.Lawful.Stepping.{here, there}
use Rattle.mapdb_join.specs.Runs.{Ascends, bits_after, count_below, last_bits}
use Rattle.mapdb_join.specs.declared.runs.starts.Start.{Start}

-- no start is below the least page
pub least_page : (least : ℕ) (xs : List Start) (j : ℕ) (d : Start) → Ascends least xs → j < length xs →
    least ≤ (get_or xs j d).page
least_page least [] j d a h = absurd (omega arith)
least_page least (s ∷ rest) zero d a h = a.0
least_page least (s ∷ rest) (suc j) d a h =
    let n : s.page + 1 ≤ (get_or rest j d).page = least_page (s.page + 1) rest j d a.1 (omega arith) in
    let l : least ≤ s.page = a.0 in
    omega arith

-- pages do not fall
pub pages_rise : (least : ℕ) (xs : List Start) → Ascends least xs → IsNonDecreasingBy (λ s. s.page) xs
pages_rise least [] a i j d le h = absurd (omega arith)
pages_rise least (s ∷ rest) a zero zero d le h = omega arith
pages_rise least (s ∷ rest) a zero (suc j) d le h =
    let n : s.page + 1 ≤ (get_or rest j d).page = least_page (s.page + 1) rest j d a.1 (omega arith) in
    omega arith
pages_rise least (s ∷ rest) a (suc i) zero d le h = absurd (omega arith)
pages_rise least (s ∷ rest) a (suc i) (suc j) d le h =
    pages_rise (s.page + 1) rest a.1 i j d (omega arith) (omega arith)

-- where the starts in front of an index are below the page, and those from there on are not, that many are below
pub count_at : (xs : List Start) (page i : ℕ) → i ≤ length xs →
    IsPartitionPoint (λ s. ltb s.page page ≡ true) (λ s. ltb s.page page ≡ false) xs i → i ≡ count_below xs page
count_at [] page i le p = omega arith
count_at (s ∷ rest) page zero le p = rw (p.1 0 s (omega arith) (omega arith)) refl
count_at (s ∷ rest) page (suc i) le p =
    rw (p.0 0 s (omega arith) (omega arith))
    (ap suc (count_at rest page i (omega arith) (λ k d lo hi. p.0 (suc k) d (omega arith) (omega arith), λ k d lo hi. p.1 (suc k) d (omega arith) (omega arith))))

-- the last bits of a front that is not empty
pub last_of_suc : (before : ℕ) (xs : List Start) (i : ℕ) (d : Start) → i < length xs →
    (get_or xs i d).bits ≡ last_bits before (take (suc i) xs)
last_of_suc before [] i d lt = absurd (omega arith)
last_of_suc before (s ∷ rest) zero d lt = refl
last_of_suc before (s ∷ rest) (suc i) d lt = last_of_suc s.bits rest i d (omega arith)

-- the last bits of a front are those of the start at its end
pub last_of_take : (before : ℕ) (xs : List Start) (index : ℕ) (d : Start) → index ≤ length xs → 0 < index →
    (get_or xs (index - 1) d).bits ≡ last_bits before (take index xs)
last_of_take before xs zero d le lt = absurd (omega arith)
last_of_take before xs (suc i) d le lt =
    let e : suc i - 1 ≡ i = omega arith in rw e (last_of_suc before xs i d (omega arith))

pub counted : (s : Start) (rest : List Start) (page : ℕ) → s.page < page →
    count_below (s ∷ rest) page ≡ suc (count_below rest page)
counted s rest page h = rw (lt-ltb s.page page h) refl

pub uncounted : (s : Start) (rest : List Start) (page : ℕ) → page ≤ s.page →
    count_below (s ∷ rest) page ≡ 0
uncounted s rest page h = rw (le-ltb s.page page h) refl

-- the front of the starts below a page tells the bits in front of that page
pub front_of : (before : ℕ) (xs : List Start) (at page : ℕ) → page < at →
    bits_after before (take (count_below xs at) xs) page ≡ bits_after before xs page
front_of before [] at page h = refl
front_of before (s ∷ rest) at page h = elim (cases_lt s.page at) [
  | inl p ↦ rw (counted s rest at p) (elim (cases_lt page s.page) [
    | inl q ↦ here before s _ page q ∙ sym (here before s rest page q)
    | inr q ↦ there before s _ page q ∙ front_of s.bits rest at page h ∙ sym (there before s rest page q)
  ])
  | inr p ↦ rw (uncounted s rest at p) (sym (here before s rest page (omega arith)))
]

-- the starts from a page on tell the bits from there on
pub back_of : (before : ℕ) (xs : List Start) (at page : ℕ) → at ≤ page + 1 →
    bits_after (last_bits before (take (count_below xs at) xs)) (drop (count_below xs at) xs) page
    ≡ bits_after before xs page
back_of before [] at page h = refl
back_of before (s ∷ rest) at page h = elim (cases_lt s.page at) [
  | inl p ↦ rw (counted s rest at p) (back_of s.bits rest at page h ∙ sym (there before s rest page (omega arith)))
  | inr p ↦ rw (uncounted s rest at p) refl
]

-- the bits of a page are those of the last start that is not above it
pub last_at : (before least : ℕ) (xs : List Start) (page : ℕ) → Ascends least xs →
    last_bits before (take (count_below xs (page + 1)) xs) ≡ bits_after before xs page
last_at before least [] page a = refl
last_at before least (s ∷ rest) page a = elim (cases_lt page s.page) [
  | inl p ↦ rw (uncounted s rest (page + 1) (omega arith)) (sym (here before s rest page p))
  | inr p ↦ rw (counted s rest (page + 1) (omega arith)) (last_at s.bits (s.page + 1) rest page a.1 ∙ sym (there before s rest page p))
]
