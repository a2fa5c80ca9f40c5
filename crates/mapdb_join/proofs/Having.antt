-- Whether all pages of a region have some bits.
use Rattle.std.specs.Prelude.{◌≡◌, ℕ, ◌≤◌, ◌<◌, ◌+◌, List, [], ◌∷◌, take, drop, bit_or}
use Rattle.std.proofs.Common.{sym, ◌∙◌, subst, arith, inl, inr}
use Rattle.std.specs.List.{All, AllByRecursion}
use Rattle.std.proofs.lemmas.Bool.{cases_lt}
use Rattle.std.proofs.lemmas.List.Elements.{All-from_recursion, recursion_from_All}
use Rattle.mapdb_join.specs.Runs.{Ascends, HasOver, bits_after, count_below, last_bits}
use Rattle.mapdb_join.specs.Tidy.{middle}
use Rattle.mapdb_join.specs.declared.runs.starts.Start.{Start}
use Rattle.mapdb_join.proofs.Changing.{inside_is}
use Rattle.mapdb_join.proofs.Counting.{last_at}
use Rattle.mapdb_join.specs.Lawful.Stepping.{below_all, here, there}
use Rattle.mapdb_join.proofs.Pieces.{AllBelow, drop_ascends, front_below, middle_is, take_ascends}

-- what holds of the bits in front and at each start holds at each page
each_page : (P : ℕ → Type 0) (before : ℕ) (xs : List Start) (page : ℕ) → P before → AllByRecursion (λ s. P s.bits) xs →
    P (bits_after before xs page)
each_page P before [] page p all = p
each_page P before (s ∷ rest) page p all = elim (cases_lt page s.page) [
  | inl l ↦ subst P (sym (here before s rest page l)) p
  | inr l ↦ subst P (sym (there before s rest page l)) (each_page P s.bits rest page all.0 all.1)
]

-- what holds of the bits at each page holds at each start
each_start : (P : ℕ → Type 0) (before least end : ℕ) (xs : List Start) → Ascends least xs → AllBelow end xs →
    ((page : ℕ) → least ≤ page → page < end → P (bits_after before xs page)) → AllByRecursion (λ s. P s.bits) xs
each_start P before least end [] a all h = tt
each_start P before least end (s ∷ rest) a all h =
    let l : least ≤ s.page = a.0 in (
      subst P (there before s rest s.page (omega arith) ∙ below_all s.bits (s.page + 1) rest s.page a.1 (omega arith)) (h s.page l all.0),
      each_start P s.bits (s.page + 1) end rest a.1 all.1 (λ page lo hi. subst P (there before s rest page (omega arith)) (h page (omega arith) hi)),
    )

-- a region has the bits where its first page and each start within it has them
pub has_region : (xs : List Start) (first end bits : ℕ) → Ascends 0 xs → first < end →
    bit_or (last_bits 0 (take (count_below xs (first + 1)) xs)) bits ≡ last_bits 0 (take (count_below xs (first + 1)) xs) →
    All (λ s. bit_or s.bits bits ≡ s.bits) (middle xs (first + 1) end) → HasOver first end bits xs
has_region xs first end bits a some at_first all page lo hi =
    subst (λ b. bit_or b bits ≡ b) (inside_is xs first end page some lo hi)
    (each_page (λ b. bit_or b bits ≡ b) _ (middle xs (first + 1) end) page at_first (recursion_from_All _ (middle xs (first + 1) end) all))

pub region_first : (xs : List Start) (first end bits : ℕ) → Ascends 0 xs → first < end → HasOver first end bits xs →
    bit_or (last_bits 0 (take (count_below xs (first + 1)) xs)) bits ≡ last_bits 0 (take (count_below xs (first + 1)) xs)
region_first xs first end bits a some h =
    subst (λ b. bit_or b bits ≡ b) (sym (last_at 0 0 xs first a)) (h first (omega arith) some)

pub region_starts : (xs : List Start) (first end bits : ℕ) → Ascends 0 xs → first < end → HasOver first end bits xs →
    All (λ s. bit_or s.bits bits ≡ s.bits) (middle xs (first + 1) end)
region_starts xs first end bits a some h =
    All-from_recursion _ (middle xs (first + 1) end)
    (each_start (λ b. bit_or b bits ≡ b) (last_bits 0 (take (count_below xs (first + 1)) xs)) (first + 1) end (middle xs (first + 1) end)
    (take_ascends (first + 1) _ _ (drop_ascends 0 (first + 1) xs a))
    (subst (AllBelow end) (sym (middle_is xs (first + 1) end (omega arith))) (front_below (drop (count_below xs (first + 1)) xs) end))
    (λ page lo hi. subst (λ b. bit_or b bits ≡ b) (sym (inside_is xs first end page some (omega arith) hi)) (h page (omega arith) hi)))
