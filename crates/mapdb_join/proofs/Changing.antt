-- What bits that are added over a region leave.
use Rattle.std.specs.Prelude.{◌≡◌, ℕ, ◌≤◌, ◌<◌, ◌+◌, List, [], ◌∷◌, ◌++◌, take, drop, map, bit_or, slice_range}
use Rattle.std.proofs.Common.{sym, ◌∙◌, ap, subst, arith, append_assoc}
use Rattle.std.specs.List.{AllByRecursion, splice}
use Rattle.std.proofs.lemmas.List.{take-append-drop}
use Rattle.std.proofs.lemmas.Nat.{or_lt}
use Rattle.mapdb_join.specs.declared.runs.bounds.TheConstants.{BITS_LIMIT, RUN_LIMIT}
use Rattle.mapdb_join.specs.Runs.{Ascends, Changes, IsBounded, IsOver, IsRuns, bits_after, count_below, last_bits}
use Rattle.mapdb_join.specs.Tidy.{at_end, at_first, back, changes, front, middle, region, tidy, with_bits}
use Rattle.mapdb_join.specs.declared.runs.starts.Start.{Start}
use Rattle.mapdb_join.proofs.Counting.{back_of, front_of}
use Rattle.mapdb_join.specs.Lawful.Stepping.{there}
use Rattle.mapdb_join.proofs.Pieces.{AllBelow, all_append, all_drop, all_take, ascends_append, back_page, drop_ascends, drop_changes, front_below, front_page, middle_is, or_ascends, or_below, or_bits, take_ascends, take_changes}
use Rattle.mapdb_join.specs.Lawful.Tidying.{last_append, tidy_all, tidy_append, tidy_ascends, tidy_bits, tidy_changes, tidy_last, tidy_same, weaken}

module _ (xs : List Start) (first end bits : ℕ) where
  -- the region, and the starts behind it
  abbrev pub tail : List Start
  tail =
      record { page = first; bits = bit_or (at_first xs first end bits) bits }
      ∷ (changes xs first end bits) ++ record { page = end; bits = (at_end xs first end bits) } ∷ (back xs first end bits)

  -- the list, with starts that may change nothing
  abbrev pub loose : List Start
  loose = (front xs first end bits) ++ tail

  tail_is : tail ≡ (region xs first end bits) ++ (back xs first end bits)
  tail_is =
      ap (λ l. record { page = first; bits = bit_or (at_first xs first end bits) bits } ∷ l)
      (sym (append_assoc (changes xs first end bits) (record { page = end; bits = (at_end xs first end bits) } ∷ []) (back xs first end bits)))

  region_last : (before : ℕ) → last_bits before (region xs first end bits) ≡ (at_end xs first end bits)
  region_last before = last_append (bit_or (at_first xs first end bits) bits) (changes xs first end bits) (record { page = end; bits = (at_end xs first end bits) } ∷ [])

  tail_last : (before : ℕ) → last_bits before tail ≡ last_bits 0 xs
  tail_last before =
      last_append (bit_or (at_first xs first end bits) bits) (changes xs first end bits) (record { page = end; bits = (at_end xs first end bits) } ∷ (back xs first end bits))
      ∙ sym (last_append 0 (take (count_below xs (end + 1)) xs) (back xs first end bits))
      ∙ ap (last_bits 0) (take-append-drop (count_below xs (end + 1)) xs)

  -- what stands in the place of the region's starts makes the list without those that change nothing
  pub spliced : Changes 0 xs →
      splice xs (count_below xs first) (count_below xs (end + 1)) (tidy (last_bits 0 (front xs first end bits)) (region xs first end bits)) ≡ tidy 0 loose
  spliced m =
      sym (tidy_append 0 (front xs first end bits) tail
      ∙ ap (λ l. l ++ tidy (last_bits 0 (front xs first end bits)) tail) (tidy_same 0 (front xs first end bits) (take_changes 0 (count_below xs first) xs m))
      ∙ ap (λ l. (front xs first end bits) ++ tidy (last_bits 0 (front xs first end bits)) l) tail_is
      ∙ ap (λ l. (front xs first end bits) ++ l) (tidy_append (last_bits 0 (front xs first end bits)) (region xs first end bits) (back xs first end bits)
      ∙ ap (λ b. tidy (last_bits 0 (front xs first end bits)) (region xs first end bits) ++ tidy b (back xs first end bits)) (region_last (last_bits 0 (front xs first end bits)))
      ∙ ap (λ l. tidy (last_bits 0 (front xs first end bits)) (region xs first end bits) ++ l) (tidy_same (at_end xs first end bits) (back xs first end bits) (drop_changes 0 (count_below xs (end + 1)) xs m))))

last_bounded : (before : ℕ) (xs : List Start) → before < BITS_LIMIT → AllByRecursion IsBounded xs → last_bits before xs < BITS_LIMIT
last_bounded before [] b h = b
last_bounded before (s ∷ rest) b h = last_bounded s.bits rest h.0.1 h.1

pub or_bounded : (bits : ℕ) (xs : List Start) → bits < BITS_LIMIT → AllByRecursion IsBounded xs →
    AllByRecursion IsBounded (map (with_bits bits) xs)
or_bounded bits [] b h = tt
or_bounded bits (s ∷ rest) b h = ((h.0.0, or_lt 3 s.bits bits h.0.1 b), or_bounded bits rest b h.1)

-- the starts within a region tell the bits of its pages
pub inside_is : (xs : List Start) (first end page : ℕ) → first < end → first ≤ page → page < end →
    bits_after (last_bits 0 (take (count_below xs (first + 1)) xs)) (middle xs (first + 1) end) page ≡ bits_after 0 xs page
inside_is xs first end page some h k =
    ap (λ l. bits_after (last_bits 0 (take (count_below xs (first + 1)) xs)) l page) (middle_is xs (first + 1) end (omega arith))
    ∙ front_of (last_bits 0 (take (count_below xs (first + 1)) xs)) (drop (count_below xs (first + 1)) xs) end page k
    ∙ back_of 0 xs (first + 1) page (omega arith)

module _ (xs : List Start) (first end bits : ℕ) (runs : IsRuns xs) (some : first < end) where
  mid_below : AllBelow end (changes xs first end bits)
  mid_below =
      or_below end bits (middle xs (first + 1) end)
      (subst (AllBelow end) (sym (middle_is xs (first + 1) end (omega arith))) (front_below (drop (count_below xs (first + 1)) xs) end))

  mid_ascends : Ascends (first + 1) (changes xs first end bits)
  mid_ascends = or_ascends (first + 1) bits (middle xs (first + 1) end) (take_ascends (first + 1) _ _ (drop_ascends 0 (first + 1) xs runs.ascending))

  back_ascends : Ascends (end + 1) (back xs first end bits)
  back_ascends = drop_ascends 0 (end + 1) xs runs.ascending

  tail_ascends : Ascends first (tail xs first end bits)
  tail_ascends =
      (omega arith, ascends_append (first + 1) end (changes xs first end bits) _ mid_ascends mid_below (omega arith) (omega arith, back_ascends))

  loose_ascends : Ascends 0 (loose xs first end bits)
  loose_ascends =
      ascends_append 0 first (front xs first end bits) _ (take_ascends 0 (count_below xs first) xs runs.ascending) (front_below xs first) (omega arith) tail_ascends

  first_bits : (page : ℕ) → page < first → bits_after 0 (loose xs first end bits) page ≡ bits_after 0 xs page
  first_bits page h =
      front_page 0 (front xs first end bits) (tail xs first end bits) page (weaken (page + 1) first (tail xs first end bits) (omega arith) tail_ascends)
      ∙ front_of 0 xs first page h

  tail_bits : (page : ℕ) → first ≤ page →
      bits_after 0 (loose xs first end bits) page
      ≡ bits_after (bit_or (at_first xs first end bits) bits) (changes xs first end bits ++ record { page = end; bits = at_end xs first end bits } ∷ back xs first end bits) page
  tail_bits page h =
      back_page 0 first (front xs first end bits) (tail xs first end bits) page (front_below xs first) (omega arith)
      ∙ there (last_bits 0 (front xs first end bits)) (record { page = first; bits = bit_or (at_first xs first end bits) bits }) _ page h

  inside_bits : (page : ℕ) → first ≤ page → page < end →
      bits_after 0 (loose xs first end bits) page ≡ bit_or (bits_after 0 xs page) bits
  inside_bits page h k =
      tail_bits page h
      ∙ front_page (bit_or (at_first xs first end bits) bits) (changes xs first end bits) _ page (omega arith, back_ascends)
      ∙ or_bits (at_first xs first end bits) bits (middle xs (first + 1) end) page
      ∙ ap (λ b. bit_or b bits)
      (inside_is xs first end page some h k)

  behind_bits : (page : ℕ) → end ≤ page → bits_after 0 (loose xs first end bits) page ≡ bits_after 0 xs page
  behind_bits page h =
      tail_bits page (omega arith)
      ∙ back_page (bit_or (at_first xs first end bits) bits) end (changes xs first end bits) _ page mid_below (omega arith)
      ∙ there (last_bits (bit_or (at_first xs first end bits) bits) (changes xs first end bits)) (record { page = end; bits = at_end xs first end bits }) (back xs first end bits) page h
      ∙ back_of 0 xs (end + 1) page (omega arith)

  pub is_over : IsOver first end bits xs (tidy 0 (loose xs first end bits))
  is_over = record {
    inside = λ page h k. tidy_bits 0 0 (loose xs first end bits) page loose_ascends ∙ inside_bits page h k;
    before = λ page h. tidy_bits 0 0 (loose xs first end bits) page loose_ascends ∙ first_bits page h;
    behind = λ page h. tidy_bits 0 0 (loose xs first end bits) page loose_ascends ∙ behind_bits page h;
  }

  pub stays_runs : end ≤ RUN_LIMIT → bits < BITS_LIMIT → IsRuns (tidy 0 (loose xs first end bits))
  stays_runs limit small = record {
    ascending = tidy_ascends 0 0 (loose xs first end bits) loose_ascends;
    maximal = tidy_changes 0 (loose xs first end bits);
    ended = tidy_last 0 (loose xs first end bits) ∙ last_append 0 (front xs first end bits) (tail xs first end bits) ∙ tail_last xs first end bits (last_bits 0 (front xs first end bits)) ∙ runs.ended;
    bounded = tidy_all IsBounded 0 (loose xs first end bits)
        (all_append IsBounded (front xs first end bits) (tail xs first end bits)
        (all_take IsBounded (count_below xs first) xs runs.bounded) (
          (omega arith, or_lt 3 _ bits (last_bounded 0 _ (omega arith) (all_take IsBounded (count_below xs (first + 1)) xs runs.bounded)) small),
          all_append IsBounded (changes xs first end bits) _
              (or_bounded bits _ small (all_take IsBounded _ _ (all_drop IsBounded (count_below xs (first + 1)) xs runs.bounded))) (
                (omega arith, last_bounded 0 _ (omega arith) (all_take IsBounded (count_below xs (end + 1)) xs runs.bounded)),
                all_drop IsBounded (count_below xs (end + 1)) xs runs.bounded,
              ),
        ));
  }

-- the list as it is put together
pub put_together : (xs : List Start) (first end bits lo before from_first at from_end behind high : ℕ) (list : List Start) →
    lo ≡ count_below xs first → before ≡ last_bits 0 (take lo xs) →
    from_first ≡ count_below xs (first + 1) → at ≡ last_bits 0 (take from_first xs) →
    from_end ≡ count_below xs (end + 1) → behind ≡ last_bits 0 (take from_end xs) → high ≡ count_below xs end →
    list ≡ tidy before ((([] ++ record { page = first; bits = bit_or at bits } ∷ []) ++ map (with_bits bits) (slice_range xs from_first high)) ++ record { page = end; bits = behind } ∷ []) →
    list ≡ tidy (last_bits 0 (front xs first end bits)) (region xs first end bits)
put_together xs first end bits lo before from_first at from_end behind high list e1 e2 e3 e4 e5 e6 e7 e =
    e
    ∙ ap (λ b. tidy b (record { page = first; bits = bit_or at bits } ∷ map (with_bits bits) (slice_range xs from_first high) ++ record { page = end; bits = behind } ∷ [])) (e2 ∙ ap (λ n. last_bits 0 (take n xs)) e1)
    ∙ ap (λ b. tidy (last_bits 0 (front xs first end bits)) (record { page = first; bits = bit_or b bits } ∷ map (with_bits bits) (slice_range xs from_first high) ++ record { page = end; bits = behind } ∷ [])) (e4 ∙ ap (λ n. last_bits 0 (take n xs)) e3)
    ∙ ap (λ n. tidy (last_bits 0 (front xs first end bits)) (record { page = first; bits = bit_or (at_first xs first end bits) bits } ∷ map (with_bits bits) (slice_range xs n high) ++ record { page = end; bits = behind } ∷ [])) e3
    ∙ ap (λ n. tidy (last_bits 0 (front xs first end bits)) (record { page = first; bits = bit_or (at_first xs first end bits) bits } ∷ map (with_bits bits) (slice_range xs (count_below xs (first + 1)) n) ++ record { page = end; bits = behind } ∷ [])) e7
    ∙ ap (λ b. tidy (last_bits 0 (front xs first end bits)) (record { page = first; bits = bit_or (at_first xs first end bits) bits } ∷ changes xs first end bits ++ record { page = end; bits = b } ∷ [])) (e6 ∙ ap (λ n. last_bits 0 (take n xs)) e5)

-- what is left once it stands in its place
pub placed : (xs ys : List Start) (first end bits low high : ℕ) (list new : List Start) → Changes 0 xs → ys ≡ xs →
    low ≡ count_below ys first → high ≡ count_below ys (end + 1) →
    list ≡ tidy (last_bits 0 (front ys first end bits)) (region ys first end bits) → new ≡ splice xs low high list →
    new ≡ tidy 0 (loose xs first end bits)
placed xs ys first end bits low high list new m same e1 e2 e3 e =
    e ∙ ap (λ n. splice xs n high list) (e1 ∙ ap (λ l. count_below l first) same)
    ∙ ap (λ n. splice xs (count_below xs first) n list) (e2 ∙ ap (λ l. count_below l (end + 1)) same)
    ∙ ap (λ l. splice xs (count_below xs first) (count_below xs (end + 1)) l) (e3 ∙ ap (λ l. tidy (last_bits 0 (front l first end bits)) (region l first end bits)) same)
    ∙ spliced xs first end bits m
