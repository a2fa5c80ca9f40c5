-- Lists of starts, piece by piece.
use Rattle.std.specs.Prelude.{◌≡◌, ℕ, zero, suc, ◌≤◌, ◌<◌, ◌+◌, List, [], ◌∷◌, ◌++◌, take, drop, map, bit_or, refl}
use Rattle.std.proofs.Common.{sym, ◌∙◌, ap, arith, inl, inr}
use Rattle.std.specs.List.{AllByRecursion}
use Rattle.std.proofs.lemmas.Bool.{cases_lt}
use Rattle.mapdb_join.specs.Runs.{Ascends, Changes, bits_after, count_below, last_bits}
use Rattle.mapdb_join.specs.Tidy.{middle, with_bits}
use Rattle.mapdb_join.specs.declared.runs.starts.Start.{Start}
use Rattle.mapdb_join.proofs.Counting.{counted, uncounted}
use Rattle.mapdb_join.specs.Lawful.Stepping.{below_all, here, there}
use Rattle.mapdb_join.specs.Lawful.Tidying.{weaken}

-- each start is below a page
abbrev pub AllBelow : ℕ → List Start → Type 0
AllBelow at xs = AllByRecursion (λ s. s.page < at) xs

pub ascends_append : (least at : ℕ) (xs ys : List Start) → Ascends least xs → AllBelow at xs → least ≤ at → Ascends at ys →
    Ascends least (xs ++ ys)
ascends_append least at [] ys a all le b = weaken least at ys le b
ascends_append least at (s ∷ rest) ys a all le b =
    (a.0, ascends_append (s.page + 1) at rest ys a.1 all.1 (let l : s.page < at = all.0 in omega arith) b)

pub all_append : (P : Start → Type 0) (xs ys : List Start) → AllByRecursion P xs → AllByRecursion P ys → AllByRecursion P (xs ++ ys)
all_append P [] ys h k = k
all_append P (s ∷ rest) ys h k = (h.0, all_append P rest ys h.1 k)

pub all_take : (P : Start → Type 0) (n : ℕ) (xs : List Start) → AllByRecursion P xs → AllByRecursion P (take n xs)
all_take P zero xs h = tt
all_take P (suc n) [] h = tt
all_take P (suc n) (s ∷ rest) h = (h.0, all_take P n rest h.1)

pub all_drop : (P : Start → Type 0) (n : ℕ) (xs : List Start) → AllByRecursion P xs → AllByRecursion P (drop n xs)
all_drop P zero xs h = h
all_drop P (suc n) [] h = tt
all_drop P (suc n) (s ∷ rest) h = all_drop P n rest h.1

-- the starts in front of a page are below it
pub front_below : (xs : List Start) (at : ℕ) → AllBelow at (take (count_below xs at) xs)
front_below [] at = tt
front_below (s ∷ rest) at = elim (cases_lt s.page at) [
  | inl p ↦ rw (counted s rest at p) (p, front_below rest at)
  | inr p ↦ rw (uncounted s rest at p) tt
]

pub take_ascends : (least n : ℕ) (xs : List Start) → Ascends least xs → Ascends least (take n xs)
take_ascends least zero xs a = tt
take_ascends least (suc n) [] a = tt
take_ascends least (suc n) (s ∷ rest) a = (a.0, take_ascends (s.page + 1) n rest a.1)

-- the starts from a page on are not below it
pub drop_ascends : (least at : ℕ) (xs : List Start) → Ascends least xs → Ascends at (drop (count_below xs at) xs)
drop_ascends least at [] a = tt
drop_ascends least at (s ∷ rest) a = elim (cases_lt s.page at) [
  | inl p ↦ rw (counted s rest at p) (drop_ascends (s.page + 1) at rest a.1)
  | inr p ↦ rw (uncounted s rest at p) (p, a.1)
]

pub take_changes : (before n : ℕ) (xs : List Start) → Changes before xs → Changes before (take n xs)
take_changes before zero xs h = tt
take_changes before (suc n) [] h = tt
take_changes before (suc n) (s ∷ rest) h = (h.0, take_changes s.bits n rest h.1)

pub drop_changes : (before n : ℕ) (xs : List Start) → Changes before xs → Changes (last_bits before (take n xs)) (drop n xs)
drop_changes before zero xs h = h
drop_changes before (suc n) [] h = tt
drop_changes before (suc n) (s ∷ rest) h = drop_changes s.bits n rest h.1

-- a page that is below all of the back
pub front_page : (before : ℕ) (xs ys : List Start) (page : ℕ) → Ascends (page + 1) ys →
    bits_after before (xs ++ ys) page ≡ bits_after before xs page
front_page before [] ys page a = below_all before (page + 1) ys page a (omega arith)
front_page before (s ∷ rest) ys page a = elim (cases_lt page s.page) [
  | inl p ↦ here before s (rest ++ ys) page p ∙ sym (here before s rest page p)
  | inr p ↦ there before s (rest ++ ys) page p ∙ front_page s.bits rest ys page a ∙ sym (there before s rest page p)
]

-- a page that is not below any of the front
pub back_page : (before at : ℕ) (xs ys : List Start) (page : ℕ) → AllBelow at xs → at ≤ page + 1 →
    bits_after before (xs ++ ys) page ≡ bits_after (last_bits before xs) ys page
back_page before at [] ys page all h = refl
back_page before at (s ∷ rest) ys page all h =
    there before s (rest ++ ys) page (let l : s.page < at = all.0 in omega arith) ∙ back_page s.bits at rest ys page all.1 h

-- bits that are added to each start are added at each page
pub or_bits : (before bits : ℕ) (xs : List Start) (page : ℕ) →
    bits_after (bit_or before bits) (map (with_bits bits) xs) page ≡ bit_or (bits_after before xs page) bits
or_bits before bits [] page = refl
or_bits before bits (s ∷ rest) page = elim (cases_lt page s.page) [
  | inl p ↦ here (bit_or before bits) (with_bits bits s) (map (with_bits bits) rest) page p ∙ ap (λ b. bit_or b bits) (sym (here before s rest page p))
  | inr p ↦ there (bit_or before bits) (with_bits bits s) (map (with_bits bits) rest) page p ∙ or_bits s.bits bits rest page ∙ ap (λ b. bit_or b bits) (sym (there before s rest page p))
]

pub or_ascends : (least bits : ℕ) (xs : List Start) → Ascends least xs → Ascends least (map (with_bits bits) xs)
or_ascends least bits [] a = tt
or_ascends least bits (s ∷ rest) a = (a.0, or_ascends (s.page + 1) bits rest a.1)

pub or_below : (at bits : ℕ) (xs : List Start) → AllBelow at xs → AllBelow at (map (with_bits bits) xs)
or_below at bits [] a = tt
or_below at bits (s ∷ rest) a = (a.0, or_below at bits rest a.1)

-- the starts that are below a page, of those from another page on
pub count_split : (xs : List Start) (low high : ℕ) → low ≤ high →
    count_below xs high ≡ count_below xs low + count_below (drop (count_below xs low) xs) high
count_split [] low high h = omega arith
count_split (s ∷ rest) low high h = elim (cases_lt s.page low) [
  | inl p ↦ rw (counted s rest low p, counted s rest high (omega arith)) (let e = count_split rest low high h in omega (arith, e))
  | inr p ↦ rw (uncounted s rest low p) (omega arith)
]

pub middle_is : (xs : List Start) (low high : ℕ) → low ≤ high →
    middle xs low high ≡ take (count_below (drop (count_below xs low) xs) high) (drop (count_below xs low) xs)
middle_is xs low high h =
    ap (λ n. take n (drop (count_below xs low) xs)) (let e = count_split xs low high h in omega (arith, e))

pub count_rises : (xs : List Start) (low high : ℕ) → low ≤ high → count_below xs low ≤ count_below xs high
count_rises xs low high h = let e = count_split xs low high h in omega (arith, e)
