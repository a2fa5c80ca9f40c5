-- How frames are written.
use Rattle.std.proofs.Common.{◌≡◌, ℕ, zero, suc, ◌+◌, ◌-◌, ◌*◌, ◌/◌, ◌%◌, ◌<◌, ◌≤◌, ◌^◌, ◌≢◌, ap, false, List, [], ◌∷◌, ◌++◌, length, max, refl, sym, ◌∙◌, append_assoc, arith}
use Rattle.std.proofs.lemmas.Bool.{eq-eqb, ne_eqb}
use Rattle.std.proofs.lemmas.List.{append-nil}
use Rattle.std.proofs.lemmas.Nat.{pow-add, pow_pos, leading_top}
use Rattle.std.proofs.Math.Nat.{div-div-eq-div-mul, div-one, pow-le-pow_right, div-eq_of_lt}
use Rattle.std.specs.Prelude.{replicate}
use Rattle.std.specs.Int.Count.{count_leading_zeros, leading_of_zero}
use Rattle.std.specs.Fmt.{digits, digits_onto, digit_glyph}
use Rattle.mapdb_lines.specs.Shown.{frame_text, last_digits}

-- a place further up counts sixteen times as much
pow-step : (k : ℕ) → 2 ^ (4 * suc k) ≡ 16 * 2 ^ (4 * k)
pow-step k =
    let same : 4 * suc k ≡ 4 + 4 * k = omega arith in
    rw same (pow-add 2 4 (4 * k))

div-step : (n k : ℕ) → n / 16 / 2 ^ (4 * k) ≡ n / 2 ^ (4 * suc k)
div-step n k = rw (pow-step k) (div-div-eq-div-mul n 16 (2 ^ (4 * k)))

-- none of the digits
no_digits : (k n : ℕ) → k ≡ 0 → last_digits k n ≡ []
unfolding last_digits
no_digits zero n none = refl
no_digits (suc k) n none = absurd (omega arith)

-- the last digit stands at the end
last_digits-end : (k n : ℕ) → last_digits (suc k) n ≡ last_digits k (n / 16) ++ digit_glyph false (n % 16) ∷ []
unfolding last_digits
last_digits-end zero n = ap (λ d. digit_glyph false (d % 16) ∷ []) (div-one n)
last_digits-end (suc k) n = rw (div-step n k) (ap (λ (ds : List ℕ). digit_glyph false (n / 2 ^ (4 * suc k) % 16) ∷ ds) (last_digits-end k n))

-- as many as were asked for
length-last_digits : (k n : ℕ) → length (last_digits k n) ≡ k
unfolding last_digits
length-last_digits zero n = refl
length-last_digits (suc k) n = ap suc (length-last_digits k n)

-- zeros stand before the digits that a number has
last_digits-zeros : (more k n : ℕ) → n < 2 ^ (4 * k) → last_digits (more + k) n ≡ replicate more 48 ++ last_digits k n
unfolding last_digits
last_digits-zeros zero k n small = let none : 0 + k ≡ k = omega arith in rw none refl
last_digits-zeros (suc more) k n small =
    let next : suc more + k ≡ suc (more + k) = omega arith in
    let wide : 2 ^ (4 * k) ≤ 2 ^ (4 * (more + k)) = pow-le-pow_right (omega arith) (omega arith) in
    let none : n / 2 ^ (4 * (more + k)) ≡ 0 = div-eq_of_lt (omega arith) in
    rw (next, none) (ap (λ (ds : List ℕ). 48 ∷ ds) (last_digits-zeros more k n small))

-- the digits of a number that has so many and one
digits_onto-last : (k j n : ℕ) (acc : List ℕ) → k ≤ j → n < 2 ^ (4 * suc k) → (0 < k → 2 ^ (4 * k) ≤ n) → digits_onto (suc j) 16 false n acc ≡ last_digits (suc k) n ++ acc
digits_onto-last zero j n acc room small large =
    let alone : n / 16 ≡ 0 = omega arith in
    rw (eq-eqb (n / 16) 0 alone, last_digits-end 0 n, no_digits 0 (n / 16) refl) refl
digits_onto-last (suc k) zero n acc room small large = absurd (omega arith)
digits_onto-last (suc k) (suc j) n acc room small large =
    let step = pow-step k in
    let top = pow-step (suc k) in
    let many : 2 ^ (4 * suc k) ≤ n = large (omega arith) in
    let some : 0 < 2 ^ (4 * k) = pow_pos (4 * k) in
    let others : n / 16 ≢ 0 = λ none. absurd (omega arith) in
    let last = digit_glyph false (n % 16) in
    rw (ne_eqb (n / 16) 0 others, last_digits-end (suc k) n) (digits_onto-last k j (n / 16) (last ∷ acc) (omega arith) (omega arith) (λ _. omega arith)
    ∙ sym (append_assoc (last_digits (suc k) (n / 16)) (last ∷ []) acc))

-- the same of all its digits
digits-last : (k n : ℕ) → k < 64 → n < 2 ^ (4 * suc k) → (0 < k → 2 ^ (4 * k) ≤ n) → digits 16 false n ≡ last_digits (suc k) n
unfolding digits
digits-last k n room small large = digits_onto-last k 63 n [] (omega arith) small large ∙ append-nil (last_digits (suc k) n)

-- the digits that a number has, and zeros up to five
frame_by : (k n : ℕ) → k < 64 → n < 2 ^ (4 * suc k) → (0 < k → 2 ^ (4 * k) ≤ n) → frame_text n ≡ last_digits (5 - suc k + suc k) n
frame_by k n room small large =
    let own = digits-last k n room small large in
    rw (own, length-last_digits (suc k) n) (sym (last_digits-zeros (5 - suc k) (suc k) n small))

-- how many zeros stand before a number in 64 bits, and how many digits it has then
frame_count : (n : ℕ) → n < 2 ^ 64 → (count : ℕ) × (frame_text n ≡ last_digits count n) × (max (16 - count_leading_zeros 64 n / 4) 5 ≡ count)
frame_count zero small = (5, frame_by 0 0 (omega arith) (omega arith) (λ none. absurd (omega arith)), rw (leading_of_zero 64) refl)
frame_count (suc m) small =
    let top = leading_top 64 (suc m) (omega arith) small in
    let j = top.0 in
    let k : ℕ = j / 4 in
    let above : 2 ^ suc j ≤ 2 ^ (4 * suc k) = pow-le-pow_right (omega arith) (omega arith) in
    let below : 2 ^ (4 * k) ≤ 2 ^ j = pow-le-pow_right (omega arith) (omega arith) in
    let many : max (16 - count_leading_zeros 64 (suc m) / 4) 5 ≡ 5 - suc k + suc k = omega arith in
    (5 - suc k + suc k, frame_by k (suc m) (omega arith) (omega arith) (λ _. omega arith), many)

-- the count that the zeros before a number tell
pub counted_frame : (n : ℕ) → n < 2 ^ 64 → max (16 - count_leading_zeros 64 n / 4) 5 ≡ length (frame_text n)
counted_frame n small =
    let counted = frame_count n small in
    counted.2 ∙ sym (ap length counted.1 ∙ length-last_digits counted.0 n)

-- a page or a frame, digit by digit
pub frame_digits : (n : ℕ) → n < 2 ^ 64 → last_digits (length (frame_text n)) n ≡ frame_text n
frame_digits n small =
    let counted = frame_count n small in
    let len : length (frame_text n) ≡ counted.0 = ap length counted.1 ∙ length-last_digits counted.0 n in
    rw len (sym counted.1)

-- a text with the digits that are left, before and after the next one is written
pub next_digit : (old new : List ℕ) (k n : ℕ) → 0 < k → new ≡ old ++ digit_glyph false (n / 2 ^ (4 * (k - 1)) % 16) ∷ [] → new ++ last_digits (k - 1) n ≡ old ++ last_digits k n
unfolding last_digits
next_digit old new zero n some is = absurd (omega arith)
next_digit old new (suc k) n some is =
    let before : suc k - 1 ≡ k = omega arith in
    rw (is, before) (append_assoc old (digit_glyph false (n / 2 ^ (4 * k) % 16) ∷ []) (last_digits k n))

-- a text to which every digit was written
pub all_digits : (text : List ℕ) (k n : ℕ) → k ≡ 0 → text ++ last_digits k n ≡ text
all_digits text k n none = rw (no_digits k n none) (append-nil text)
