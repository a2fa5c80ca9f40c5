-- The least run from a page on.
use Rattle.std.specs.Prelude.{◌≡◌, ◌≢◌, ℕ, zero, suc, ◌≤◌, ◌<◌, ◌+◌, ◌-◌, List, [], ◌∷◌, length, take, refl}
use Rattle.std.proofs.Common.{sym, ◌∙◌, ap, subst, arith, inl, inr}
use Rattle.std.proofs.lemmas.Bool.{cases_lt}
use Rattle.std.proofs.lemmas.List.{take_all}
use Rattle.mapdb_join.specs.Runs.{Ascends, Changes, HasNothingFrom, IsRunAt, IsRuns, bits_after, count_below, last_bits, start_at}
use Rattle.mapdb_join.specs.declared.runs.starts.Start.{Start}
use Rattle.mapdb_join.proofs.Counting.{counted, last_at, last_of_suc, least_page, uncounted}
use Rattle.mapdb_join.proofs.Pieces.{count_rises}
use Rattle.mapdb_join.proofs.RunWalks.{next_above, run_at, start_bounded}

-- starts in front of an index are below the page, and those from there on are not
pub count_under : (xs : List Start) (page i : ℕ) → i < count_below xs page → (start_at xs i).page < page
count_under [] page i h = absurd (omega arith)
count_under (s ∷ rest) page zero h = elim (cases_lt s.page page) [
  | inl p ↦ p
  | inr p ↦ let k = rw (uncounted s rest page p) at h in absurd (omega (arith, k))
]
count_under (s ∷ rest) page (suc i) h = elim (cases_lt s.page page) [
  | inl p ↦ count_under rest page i (let k = rw (counted s rest page p) at h in omega (arith, k))
  | inr p ↦ let k = rw (uncounted s rest page p) at h in absurd (omega (arith, k))
]

pub count_above : (xs : List Start) (page : ℕ) → count_below xs page < length xs → page ≤ (start_at xs (count_below xs page)).page
count_above [] page h = absurd (omega arith)
count_above (s ∷ rest) page h = elim (cases_lt s.page page) [
  | inl p ↦ let e = counted s rest page p in rw e (count_above rest page (let k = rw e at h in omega (arith, k)))
  | inr p ↦ rw (uncounted s rest page p) p
]

-- as many are below a start's page as stand in front of it
pub count_own : (least : ℕ) (xs : List Start) (i : ℕ) → Ascends least xs → i < length xs →
    count_below xs (start_at xs i).page ≡ i
count_own least [] i a h = absurd (omega arith)
count_own least (s ∷ rest) zero a h = uncounted s rest s.page (omega arith)
count_own least (s ∷ rest) (suc i) a h =
    let l = least_page (s.page + 1) rest i (record { page = 0; bits = 0 }) a.1 (omega arith) in
    counted s rest (start_at rest i).page (omega (arith, l)) ∙ ap suc (count_own (s.page + 1) rest i a.1 (omega arith))

pub count_next : (least : ℕ) (xs : List Start) (i : ℕ) → Ascends least xs → i < length xs →
    count_below xs ((start_at xs i).page + 1) ≡ suc i
count_next least [] i a h = absurd (omega arith)
count_next least (s ∷ []) zero a h = counted s [] (s.page + 1) (omega arith)
count_next least (s ∷ t ∷ rest) zero a h =
    let l : s.page + 1 ≤ t.page = a.1.0 in
    counted s (t ∷ rest) (s.page + 1) (omega arith) ∙ ap suc (uncounted t rest (s.page + 1) l)
count_next least (s ∷ rest) (suc i) a h =
    let l = least_page (s.page + 1) rest i (record { page = 0; bits = 0 }) a.1 (omega arith) in
    counted s rest ((start_at rest i).page + 1) (omega (arith, l)) ∙ ap suc (count_next (s.page + 1) rest i a.1 (omega arith))

-- none are added up to the page of the next start
pub count_stays : (xs : List Start) (low high : ℕ) → low ≤ high → count_below xs low < length xs →
    high ≤ (start_at xs (count_below xs low)).page → count_below xs high ≡ count_below xs low
count_stays [] low high le h k = refl
count_stays (s ∷ rest) low high le h k = elim (cases_lt s.page low) [
  | inl p ↦
      let e = counted s rest low p in
      let h2 = rw e at h in
      let k2 = rw e at k in
      rw (e, counted s rest high (omega arith)) (ap suc (count_stays rest low high le (omega (arith, h2)) k2))
  | inr p ↦ let e = uncounted s rest low p in let k2 = rw e at k in rw (e, uncounted s rest high k2) refl
]

-- a start has its own bits, and they differ from those in front of it
pub bits_own : (xs : List Start) (i : ℕ) → Ascends 0 xs → i < length xs →
    bits_after 0 xs (start_at xs i).page ≡ (start_at xs i).bits
bits_own xs i a h =
    sym (last_at 0 0 xs (start_at xs i).page a) ∙ ap (λ n. last_bits 0 (take n xs)) (count_next 0 xs i a h)
    ∙ sym (last_of_suc 0 xs i (record { page = 0; bits = 0 }) h)

pub changes_at : (before : ℕ) (xs : List Start) (i : ℕ) → Changes before xs → i < length xs →
    (start_at xs i).bits ≢ last_bits before (take i xs)
changes_at before [] i c h = absurd (omega arith)
changes_at before (s ∷ rest) zero c h = c.0
changes_at before (s ∷ rest) (suc i) c h = changes_at s.bits rest i c.1 (omega arith)

-- the run that begins at an index
pub run_of : (xs : List Start) (page i : ℕ) → IsRuns xs → suc i < length xs → (start_at xs i).bits ≢ 0 →
    page < (start_at xs (suc i)).page →
    ((q : ℕ) → page ≤ q → q < (start_at xs i).page → bits_after 0 xs q ≡ 0) → IsRunAt xs page i
run_of xs page i r h some reaches between =
    let e : i + 1 ≡ suc i = omega arith in
    let up = next_above 0 xs i r.ascending h in
    let end : (start_at xs i).page + ((start_at xs (suc i)).page - (start_at xs i).page) ≡ (start_at xs (suc i)).page = omega (arith, up) in
    rw e (record {
      some = some;
      pages = omega (arith, up);
      reaches = rw end reaches;
      equal = λ q lo hi. run_at 0 0 xs i q (record { page = 0; bits = 0 }) r.ascending (omega arith) lo (rw e (rw end at hi));
      begins = λ q is same. changes_at 0 xs i r.maximal (omega arith) (sym (ap (λ n. last_bits 0 (take n xs)) (sym (ap (count_below xs) is ∙ count_own 0 xs i r.ascending (omega arith))) ∙ last_at 0 0 xs q r.ascending ∙ same));
      ends = λ same. changes_at 0 xs (suc i) r.maximal h (sym (bits_own xs (suc i) r.ascending h) ∙ rw end at same ∙ last_of_suc 0 xs i (record { page = 0; bits = 0 }) (omega arith));
      nothing_between = between;
      limit = rw end (start_bounded xs (suc i) r.bounded h).0;
    })

above : (xs : List Start) (page n : ℕ) → count_below xs (page + 1) ≡ n → n < length xs → page + 1 ≤ (start_at xs n).page
above xs page n e lt = subst (λ m. page + 1 ≤ (start_at xs m).page) e (count_above xs (page + 1) (omega (arith, e, lt)))

-- a page that has bits lies in the run that begins last
pub run_in : (xs : List Start) (page n : ℕ) → IsRuns xs → count_below xs (page + 1) ≡ n → last_bits 0 (take n xs) ≢ 0 →
    (0 < n) × (n < length xs) × IsRunAt xs page (n - 1)
run_in xs page zero r e some = absurd (some refl)
run_in xs page (suc i) r e some =
    let short : suc i < length xs = elim (cases_lt (suc i) (length xs)) [
      | inl p ↦ p
      | inr p ↦ absurd (some (ap (last_bits 0) (take_all (suc i) xs p) ∙ r.ended))
    ] in
    let under = count_under xs (page + 1) i (omega (arith, e)) in
    let reach = above xs page (suc i) e short in
    let d : suc i - 1 ≡ i = omega arith in
    (omega arith, short, rw d (run_of xs page i r short (λ z. some (sym (last_of_suc 0 xs i (record { page = 0; bits = 0 }) (omega arith)) ∙ z)) (omega (arith, reach)) (λ q lo hi. absurd (omega (arith, under, lo, hi)))))

-- a page that has none lies in front of the next run
pub run_behind : (xs : List Start) (page n : ℕ) → IsRuns xs → count_below xs (page + 1) ≡ n → last_bits 0 (take n xs) ≡ 0 →
    n < length xs → (suc n < length xs) × IsRunAt xs page n
run_behind xs page n r e none lt =
    let some : (start_at xs n).bits ≢ 0 = λ z. changes_at 0 xs n r.maximal lt (z ∙ sym none) in
    let short : suc n < length xs = elim (cases_lt (suc n) (length xs)) [
      | inl p ↦ p
      | inr p ↦ absurd (some (last_of_suc 0 xs n (record { page = 0; bits = 0 }) lt ∙ ap (last_bits 0) (take_all (suc n) xs p) ∙ r.ended))
    ] in
    let reach = above xs page n e lt in
    let up = next_above 0 xs n r.ascending short in
    (short, run_of xs page n r short some (omega (arith, reach, up)) (λ q lo hi. sym (last_at 0 0 xs q r.ascending) ∙ ap (λ m. last_bits 0 (take m xs)) (count_stays xs (page + 1) (q + 1) (omega arith) (omega (arith, e, lt)) (subst (λ m. q + 1 ≤ (start_at xs m).page) (sym e) (omega (arith, hi))) ∙ e) ∙ none))

-- behind all starts there is nothing
pub run_none : (xs : List Start) (page n : ℕ) → IsRuns xs → count_below xs (page + 1) ≡ n → length xs ≤ n → HasNothingFrom page xs
run_none xs page n r e le q lo =
    let up = count_rises xs (page + 1) (q + 1) (omega arith) in
    sym (last_at 0 0 xs q r.ascending) ∙ ap (last_bits 0) (take_all (count_below xs (q + 1)) xs (omega (arith, up, e, le))) ∙ r.ended
