-- How many lines were read, how long they are, and what was read behind them.
use Rattle.std.proofs.Common.{◌≡◌, ◌≢◌, ℕ, ◌+◌, ◌≤◌, List, [], ◌∷◌, ◌++◌, length, refl, sym, ap, ◌∙◌, arith, append_assoc, subst, inl, inr}
use Rattle.std.proofs.lemmas.List.{append-nil, length-append}
use Rattle.mapdb_lines.specs.Limits.{line_limit, most_lines, read_ahead}
use Rattle.mapdb_lines.specs.Lines.{AreEnded, HasNoEnd, lines_of}
use Rattle.mapdb_lines.specs.Reading.{EndsNear, HaveAtMost, IsNear, Reads, StopsNear}
use Rattle.mapdb_lines.specs.declared.reading.Progress.{Progress}
use Rattle.mapdb_lines.specs.declared.reading.Progress.TheVariants as progress
use Rattle.mapdb_lines.proofs.LineLemmas.{lines_of-ended, lines_of-last}

-- no line of the bytes is longer
abbrev AreWithin : ℕ → List ℕ → Type 0
AreWithin most bytes = HaveAtMost most (lines_of bytes)

-- The bytes are so many lines, each with its end, and none is longer than a line may be.
pub record AreLines (bytes : List ℕ) (count : ℕ) : Type 0 where
  pub ended : AreEnded bytes
  pub counted : (rest : List ℕ) → length (lines_of (bytes ++ rest)) ≡ count + length (lines_of rest)
  pub within : (most : ℕ) → line_limit ≤ most → (rest : List ℕ) → AreWithin most rest → AreWithin most (bytes ++ rest)

pub no_lines : AreLines [] 0
no_lines = record { ended = inl refl; counted = λ rest. omega arith; within = λ most enough rest h. h }

-- one line more
pub more_lines : (done line : List ℕ) (count : ℕ) → AreLines done count → HasNoEnd line → length line ≤ line_limit → AreLines (done ++ (line ++ 10 ∷ [])) (count + 1)
more_lines done line count k h short =
    let bytes : (rest : List ℕ) → (done ++ (line ++ 10 ∷ [])) ++ rest ≡ done ++ (line ++ 10 ∷ rest) = λ rest.
    append_assoc done (line ++ 10 ∷ []) rest ∙ ap (λ (bs : List ℕ). done ++ bs) (append_assoc line (10 ∷ []) rest) in
    record {
      ended = inr (done ++ line, sym (append_assoc done line (10 ∷ [])));
      counted = λ rest.
          let all : length (lines_of ((done ++ (line ++ 10 ∷ [])) ++ rest)) ≡ count + length (lines_of (line ++ 10 ∷ rest)) =
          ap (λ (bs : List ℕ). length (lines_of bs)) (bytes rest) ∙ k.counted (line ++ 10 ∷ rest) in
          let first : length (lines_of (line ++ 10 ∷ rest)) ≡ length (lines_of rest) + 1 = ap (λ (ls : List (List ℕ)). length ls) (lines_of-ended line rest h) ∙ (omega arith) in
          omega arith;
      within = λ most enough rest others.
          let fits : length line ≤ most = omega arith in
          let first : AreWithin most (line ++ 10 ∷ rest) = subst (HaveAtMost most) (sym (lines_of-ended line rest h)) (fits, others) in
          subst (AreWithin most) (sym (bytes rest)) (k.within most enough (line ++ 10 ∷ rest) first);
    }

none_more : (n : ℕ) → n + length (lines_of []) ≡ n
unfolding lines_of
none_more n = omega arith

none_within : (most : ℕ) → AreWithin most []
unfolding lines_of
none_within most = tt

-- no line was read further than it must be
abbrev AreNear : List ℕ → Type 0
AreNear bytes = AreWithin (line_limit + read_ahead) bytes

-- a last line, which has no end or is cut
last_near : (done : List ℕ) (b : ℕ) (line : List ℕ) (count : ℕ) → AreLines done count → HasNoEnd (b ∷ line) → length (b ∷ line) ≤ line_limit + read_ahead → AreNear (done ++ (b ∷ line))
last_near done b line count k h within =
    k.within (line_limit + read_ahead) (omega arith) (b ∷ line) (subst (HaveAtMost (line_limit + read_ahead)) (sym (lines_of-last b line h)) (within, tt))

-- the lines up to the one that is read last, and what was read behind it
pub ends_near : (done bytes line ahead : List ℕ) (p : Progress) (count : ℕ) → AreLines done count → Reads bytes p line ahead → IsNear bytes p line ahead
    → p ≢ progress.Nothing → EndsNear (count + 1) (done ++ bytes)
ends_near done bytes line ahead progress.Whole count k r near some =
    let lines = more_lines done line count k r.0 r.1 in
    let counted = lines.counted [] in
    let whole = append-nil (done ++ (line ++ 10 ∷ [])) in (
      done ++ (line ++ 10 ∷ []),
      ahead,
      ap (λ (bs : List ℕ). done ++ bs) (r.2 ∙ sym (append_assoc line (10 ∷ []) ahead)) ∙ sym (append_assoc done (line ++ 10 ∷ []) ahead),
      ap (λ (bs : List ℕ). length (lines_of bs)) (sym whole) ∙ (counted ∙ none_more (count + 1)),
      near,
      subst AreNear whole (lines.within (line_limit + read_ahead) (omega arith) [] (none_within (line_limit + read_ahead))),
    )
ends_near done bytes [] ahead progress.Last count k r near some = absurd (omega arith)
ends_near done bytes (b ∷ line) ahead progress.Last count k r near some = (
  done ++ bytes,
  [],
  sym (append-nil (done ++ bytes)),
  ap (λ (bs : List ℕ). length (lines_of (done ++ bs))) r.3 ∙ (k.counted (b ∷ line) ∙ ap (λ (ls : List (List ℕ)). count + length ls) (lines_of-last b line r.0)),
  omega arith,
  subst (λ (bs : List ℕ). AreNear (done ++ bs)) (sym r.3) (last_near done b line count k r.0 (omega arith)),
)
ends_near done bytes line ahead progress.Nothing count k r near some = absurd (some refl)
ends_near done bytes [] ahead progress.TooLong count k r near some = absurd (omega arith)
ends_near done bytes (b ∷ line) ahead progress.TooLong count k r near some =
    let both = ap length near.2 ∙ length-append (b ∷ line) near.1 in
    let within : length (b ∷ line) ≤ line_limit + read_ahead = omega arith in (
      done ++ (b ∷ line),
      near.1,
      ap (λ (bs : List ℕ). done ++ bs) near.2 ∙ sym (append_assoc done (b ∷ line) near.1),
      k.counted (b ∷ line) ∙ ap (λ (ls : List (List ℕ)). count + length ls) (lines_of-last b line r.0),
      near.3,
      last_near done b line count k r.0 within,
    )

-- few lines, and little behind them
stops : (front rest : List ℕ) (count : ℕ) → AreLines front count → count ≤ most_lines + 1 → length rest ≤ line_limit + read_ahead → StopsNear (front ++ rest)
stops front rest count k few little =
    let whole = append-nil front in
    let counted = ap (λ (bs : List ℕ). length (lines_of bs)) (sym whole) ∙ (k.counted [] ∙ none_more count) in
    (front, rest, refl, k.ended, omega arith, subst (AreWithin line_limit) whole (k.within line_limit (omega arith) [] (none_within line_limit)), little)

-- no more was read than the lines that were done and a part of the next one
pub stops_within : (done bytes : List ℕ) (count : ℕ) → AreLines done count → count ≤ most_lines → length bytes ≤ line_limit + read_ahead → StopsNear (done ++ bytes)
stops_within done bytes count k few little = stops done bytes count k (omega arith) little

-- one line more was read
pub stops_near : (done bytes line ahead : List ℕ) (p : Progress) (count : ℕ) → AreLines done count → count ≤ most_lines → Reads bytes p line ahead → IsNear bytes p line ahead → StopsNear (done ++ bytes)
stops_near done bytes line ahead progress.Whole count k few r near =
    let apart : done ++ bytes ≡ (done ++ (line ++ 10 ∷ [])) ++ ahead =
    ap (λ (bs : List ℕ). done ++ bs) (r.2 ∙ sym (append_assoc line (10 ∷ []) ahead)) ∙ sym (append_assoc done (line ++ 10 ∷ []) ahead) in
    subst StopsNear (sym apart) (stops (done ++ (line ++ 10 ∷ [])) ahead (count + 1) (more_lines done line count k r.0 r.1) (omega arith) (omega arith))
stops_near done bytes line ahead progress.Last count k few r near = let same = ap length r.3 in stops_within done bytes count k few (omega arith)
stops_near done bytes line ahead progress.Nothing count k few r near = let same = ap length r.0 in stops_within done bytes count k few (omega arith)
stops_near done bytes line ahead progress.TooLong count k few r near = stops_within done bytes count k few near.0

-- nothing was read
pub stops_at_once : StopsNear []
stops_at_once = stops_within [] [] 0 no_lines (omega arith) (omega arith)
