-- Walks over the runs of a list.
use Rattle.std.specs.Prelude.{◌≡◌, ℕ, zero, suc, ◌≤◌, ◌<◌, ◌+◌, ◌-◌, List, [], ◌∷◌, length, bit_or, refl}
use Rattle.std.proofs.Common.{sym, ◌∙◌, ap, arith, inl, inr, get_or}
use Rattle.std.specs.List.{AllByRecursion}
use Rattle.std.proofs.lemmas.Bool.{cases_lt}
use Rattle.std.specs.Int.Bits.{or_zero_r}
use Rattle.mapdb_join.specs.declared.runs.bounds.TheConstants.{RUN_LIMIT}
use Rattle.mapdb_join.specs.Runs.{Ascends, CoversAll, HasOver, IsBothOf, IsBounded, IsOver, IsRuns, bits_after, last_bits, start_at}
use Rattle.mapdb_join.specs.declared.runs.starts.Start.{Start}
use Rattle.mapdb_join.proofs.Counting.{least_page}
use Rattle.mapdb_join.specs.Lawful.Stepping.{here, there}

-- the pages from a start up to the next one have its bits
pub run_at : (before least : ℕ) (xs : List Start) (i page : ℕ) (d : Start) → Ascends least xs → i + 1 < length xs →
    (get_or xs i d).page ≤ page → page < (get_or xs (i + 1) d).page → bits_after before xs page ≡ (get_or xs i d).bits
run_at before least [] i page d a lt lo hi = absurd (omega arith)
run_at before least (s ∷ rest) zero page d a lt lo hi = there before s rest page lo ∙ up_to_next rest a.1 (omega arith) hi
  where
    up_to_next : (rest : List Start) → Ascends (s.page + 1) rest → 0 < length rest → page < (get_or rest 0 d).page →
        bits_after s.bits rest page ≡ s.bits
    up_to_next [] a lt hi = refl
    up_to_next (t ∷ rest) a lt hi = here s.bits t rest page hi
run_at before least (s ∷ rest) (suc i) page d a lt lo hi =
    let e : suc i + 1 ≡ suc (i + 1) = omega arith in
    let l = least_page (s.page + 1) rest i d a.1 (omega arith) in
    there before s rest page (omega (arith, l, lo))
    ∙ run_at s.bits (s.page + 1) rest i page d a.1 (omega arith) lo (rw e at hi)

-- the pages from a start up to the next one have its bits
pub run_before : (xs : List Start) (i page : ℕ) → Ascends 0 xs → 1 ≤ i → i < length xs →
    (start_at xs (i - 1)).page ≤ page → page < (start_at xs i).page → bits_after 0 xs page ≡ (start_at xs (i - 1)).bits
run_before xs i page a some lt lo hi =
    let e : (i - 1) + 1 ≡ i = omega arith in
    run_at 0 0 xs (i - 1) page (record { page = 0; bits = 0 }) a (omega arith) lo (rw e hi)

-- pages in front of the first start
in_front : (xs : List Start) (page : ℕ) → page < (start_at xs 0).page → bits_after 0 xs page ≡ 0
in_front [] page h = refl
in_front (s ∷ rest) page h = here 0 s rest page h

-- pages from the last start on
behind_last : (before least : ℕ) (xs : List Start) (i page : ℕ) → Ascends least xs → i + 1 ≡ length xs →
    (start_at xs i).page ≤ page → bits_after before xs page ≡ last_bits before xs
behind_last before least [] i page a e h = refl
behind_last before least (s ∷ []) zero page a e h = there before s [] page h
behind_last before least (s ∷ []) (suc i) page a e h = absurd (omega arith)
behind_last before least (s ∷ t ∷ rest) zero page a e h = absurd (omega arith)
behind_last before least (s ∷ t ∷ rest) (suc i) page a e h =
    let l = least_page (s.page + 1) (t ∷ rest) i (record { page = 0; bits = 0 }) a.1 (omega arith) in
    there before s (t ∷ rest) page (omega (arith, l, h)) ∙ behind_last s.bits (s.page + 1) (t ∷ rest) i page a.1 (omega arith) h

-- once all starts were passed, there is nothing from the last one on
nothing_behind : (xs : List Start) (i page : ℕ) → Ascends 0 xs → last_bits 0 xs ≡ 0 → 1 ≤ i →
    (1 ≤ length xs → i ≤ length xs) → length xs ≤ i → (start_at xs (i - 1)).page ≤ page → bits_after 0 xs page ≡ 0
nothing_behind [] i page a ended some le ge h = refl
nothing_behind (s ∷ rest) i page a ended some le ge h =
    behind_last 0 0 (s ∷ rest) (i - 1) page a (let k = le (omega arith) in omega (arith, k)) h ∙ ended

-- a start lies within the bounds, and below the next one
pub start_bounded : (xs : List Start) (i : ℕ) → AllByRecursion IsBounded xs → i < length xs → IsBounded (start_at xs i)
start_bounded [] i h lt = absurd (omega arith)
start_bounded (s ∷ rest) zero h lt = h.0
start_bounded (s ∷ rest) (suc i) h lt = start_bounded rest i h.1 (omega arith)

pub next_above : (least : ℕ) (xs : List Start) (i : ℕ) → Ascends least xs → suc i < length xs →
    (start_at xs i).page < (start_at xs (suc i)).page
next_above least [] i a lt = absurd (omega arith)
next_above least (s ∷ rest) zero a lt =
    let l = least_page (s.page + 1) rest 0 (record { page = 0; bits = 0 }) a.1 (omega arith) in omega (arith, l)
next_above least (s ∷ rest) (suc i) a lt = next_above (s.page + 1) rest i a.1 (omega arith)

-- a start and the next one are a region, and its bits are small
pub step_region : (xs : List Start) (i : ℕ) → IsRuns xs → 1 ≤ i → i < length xs →
    ((start_at xs (i - 1)).page < (start_at xs i).page) × ((start_at xs i).page ≤ RUN_LIMIT)
step_region xs i r some lt =
    let e : suc (i - 1) ≡ i = omega arith in
    (rw e at (next_above 0 xs (i - 1) r.ascending (omega arith)), (start_bounded xs i r.bounded lt).0)

-- the runs in front of a start are covered
abbrev pub CoversBefore : List Start → List Start → ℕ → Type 0
CoversBefore mine theirs index =
    (page : ℕ) → page < (start_at theirs (index - 1)).page →
    bit_or (bits_after 0 mine page) (bits_after 0 theirs page) ≡ bits_after 0 mine page

or_nothing : (a b : ℕ) → b ≡ 0 → bit_or a b ≡ a
or_nothing a b e = ap (bit_or a) e ∙ or_zero_r a

pub covers_first : (mine theirs : List Start) → CoversBefore mine theirs 1
covers_first mine theirs page h = or_nothing _ _ (in_front theirs page h)

pub covers_next : (mine theirs : List Start) (i : ℕ) → IsRuns theirs → 1 ≤ i → i < length theirs →
    HasOver (start_at theirs (i - 1)).page (start_at theirs i).page (start_at theirs (i - 1)).bits mine →
    CoversBefore mine theirs i → CoversBefore mine theirs (i + 1)
covers_next mine theirs i r some lt here_too a page h =
    let e : i + 1 - 1 ≡ i = omega arith in
    let k = rw e at h in
    elim (cases_lt page (start_at theirs (i - 1)).page) [
      | inl p ↦ a page p
      | inr p ↦ ap (bit_or (bits_after 0 mine page)) (run_before theirs i page r.ascending some lt p k) ∙ here_too page p k
    ]

pub covers_region : (mine theirs : List Start) (i : ℕ) → IsRuns theirs → 1 ≤ i → i < length theirs → CoversAll mine theirs →
    HasOver (start_at theirs (i - 1)).page (start_at theirs i).page (start_at theirs (i - 1)).bits mine
covers_region mine theirs i r some lt all page lo hi =
    sym (ap (bit_or (bits_after 0 mine page)) (run_before theirs i page r.ascending some lt lo hi)) ∙ all page

pub covers_last : (mine theirs : List Start) (i : ℕ) → IsRuns theirs → 1 ≤ i → (1 ≤ length theirs → i ≤ length theirs) →
    length theirs ≤ i → CoversBefore mine theirs i → CoversAll mine theirs
covers_last mine theirs i r some le ge a page = elim (cases_lt page (start_at theirs (i - 1)).page) [
  | inl p ↦ a page p
  | inr p ↦ or_nothing _ _ (nothing_behind theirs i page r.ascending r.ended some le ge p)
]

-- the runs in front of a start were added
pub record Merged (old theirs now : List Start) (index : ℕ) : Type 0 where
  pub runs : IsRuns now
  pub front : (page : ℕ) → page < (start_at theirs (index - 1)).page →
      bits_after 0 now page ≡ bit_or (bits_after 0 old page) (bits_after 0 theirs page)
  pub behind : (page : ℕ) → (start_at theirs (index - 1)).page ≤ page → bits_after 0 now page ≡ bits_after 0 old page

pub merged_first : (old theirs : List Start) → IsRuns old → Merged old theirs old 1
merged_first old theirs r = record {
  runs = r;
  front = λ page h. sym (or_nothing _ _ (in_front theirs page h));
  behind = λ page h. refl;
}

pub merged_next : (old theirs now new : List Start) (i : ℕ) → IsRuns theirs → 1 ≤ i → i < length theirs → IsRuns new →
    IsOver (start_at theirs (i - 1)).page (start_at theirs i).page (start_at theirs (i - 1)).bits now new →
    Merged old theirs now i → Merged old theirs new (i + 1)
merged_next old theirs now new i r some lt runs over a =
    let e : i + 1 - 1 ≡ i = omega arith in
    let l : (start_at theirs (i - 1)).page < (start_at theirs i).page = (step_region theirs i r some lt).0 in
    record {
      runs = runs;
      front = λ page h. let k = rw e at h in elim (cases_lt page (start_at theirs (i - 1)).page) [
        | inl p ↦ over.before page p ∙ a.front page p
        | inr p ↦ over.inside page p k ∙ ap (λ b. bit_or b (start_at theirs (i - 1)).bits) (a.behind page p)
            ∙ ap (bit_or (bits_after 0 old page)) (sym (run_before theirs i page r.ascending some lt p k))
      ];
      behind = λ page h. let k = rw e at h in over.behind page k ∙ a.behind page (omega (arith, l, k));
    }

pub merged_last : (old theirs now : List Start) (i : ℕ) → IsRuns theirs → 1 ≤ i → (1 ≤ length theirs → i ≤ length theirs) →
    length theirs ≤ i → Merged old theirs now i → IsBothOf old theirs now
merged_last old theirs now i r some le ge a page = elim (cases_lt page (start_at theirs (i - 1)).page) [
  | inl p ↦ a.front page p
  | inr p ↦ a.behind page p ∙ sym (or_nothing _ _ (nothing_behind theirs i page r.ascending r.ended some le ge p))
]
