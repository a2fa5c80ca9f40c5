-- A text passes through what waits, step by step.
use Rattle.std.proofs.Common.{◌≡◌, ℕ, ◌+◌, ◌-◌, ◌≤◌, ◌<◌, List, [], ◌++◌, sym, ap, ◌∙◌, arith, append_assoc, take, drop, length, length-append, length-drop}
use Rattle.std.proofs.lemmas.List.{take-append-drop, take_all, append-nil, drop-append-le, drop-take}
use Rattle.std.proofs.Math.ListN.{drop_of_length-le, length-take}
use Rattle.std.proofs.Math.Seq.{take-append-add, take-append_seam}
use Rattle.std.specs.Prelude.{Option, slice_range}
use Rattle.std.specs.Io.KnownBytes.{Appends}
use Rattle.std.proofs.KnownBytes.{Appends-nil, Appends-trans}
use Rattle.mapdb_lines.specs.Blocks.{Passes}

-- one text after another
pub passes-then : (a b c : Option (List ℕ)) (x y z s t : List ℕ) → Passes a b x y s → Passes b c y z t → Passes a c x z (s ++ t)
passes-then a b c x y z s t h k = (
  h.0 ++ k.0,
  Appends-trans a b c h.0 k.0 h.1 k.1,
  sym (append_assoc x s t) ∙ (ap (λ (bs : List ℕ). bs ++ t) h.2 ∙ (append_assoc h.0 y t ∙ (ap (λ (bs : List ℕ). h.0 ++ bs) k.2 ∙ sym (append_assoc h.0 k.0 z)))),
)

-- nothing happens
pub passes-none : (a : Option (List ℕ)) (x y : List ℕ) → y ≡ x → Passes a a x y []
passes-none a x y e = ([], Appends-nil a, append-nil x ∙ sym e)

-- a text, and then nothing
pub passes-on : (a b c : Option (List ℕ)) (x y z s : List ℕ) → Passes a b x y s → Passes b c y z [] → Passes a c x z s
passes-on a b c x y z s h k =
    let both = passes-then a b c x y z s [] h k in (both.0, both.1, ap (λ (bs : List ℕ). x ++ bs) (sym (append-nil s)) ∙ both.2)

-- the front of what waits is written
pub passes-written : (a b : Option (List ℕ)) (n : ℕ) (x y : List ℕ) → Appends a b (take n x) → y ≡ drop n x → Passes a b x y []
passes-written a b n x y h e = (take n x, h, append-nil x ∙ (sym (take-append-drop n x) ∙ ap (λ (bs : List ℕ). take n x ++ bs) (sym e)))

-- nothing waits, and a text is written
pub passes-direct : (a b : Option (List ℕ)) (x t : List ℕ) → x ≡ [] → Appends a b t → Passes a b x x t
passes-direct a b x t e h = (t, h, ap (λ (bs : List ℕ). bs ++ t) e ∙ (sym (append-nil t) ∙ ap (λ (bs : List ℕ). t ++ bs) (sym e)))

-- where nothing waited, nothing waits
pub passes_none_left : (before written after : List ℕ) → before ++ [] ≡ written ++ after → before ≡ [] → 0 < length after → ⊥
passes_none_left before written after e none some =
    let sum = ap length e in
    let front = length-append before [] in
    let back = length-append written after in
    let zero = ap length none in
    absurd (omega arith)

-- bytes that are put behind a range join it
pub range_added : (xs text back : List ℕ) (s e : ℕ) → s ≤ e → e ≤ length xs → slice_range (take e xs ++ (text ++ back)) s (e + length text) ≡ slice_range xs s e ++ text
range_added xs text back s e low high =
    let whole : length (take e xs) ≡ e = omega (arith, length-take e xs) in
    let part : List ℕ = take (e - s) (drop s xs) in
    let size : length part ≡ e - s = omega (arith, length-take (e - s) (drop s xs), length-drop s xs) in
    let split : drop s (take e xs ++ (text ++ back)) ≡ drop s (take e xs) ++ (text ++ back) = drop-append-le s (take e xs) (text ++ back) (omega arith) in
    let there : e ≡ s + (e - s) = omega arith in
    let front : drop s (take e xs) ≡ part = ap (λ n. drop s (take n xs)) there ∙ drop-take s (e - s) xs in
    let more : e + length text - s ≡ length part + length text = omega arith in
    ap (take (e + length text - s)) (split ∙ ap (λ (bs : List ℕ). bs ++ (text ++ back)) front)
    ∙ (ap (λ n. take n (part ++ (text ++ back))) more
    ∙ (take-append-add part (text ++ back) (length text)
    ∙ ap (λ (bs : List ℕ). part ++ bs) (take-append_seam text back)))

-- the same where the bytes are those of a whole list
pub range_put : (xs text : List ℕ) (s e room : ℕ) → s ≤ e → e + length text ≤ room → length xs ≡ room
    → (let all : List ℕ = take e xs ++ (text ++ drop (e + length text - e) (drop e xs)) in slice_range (take room (all ++ drop (length all) xs)) s (e + length text) ≡ slice_range xs s e ++ text)
range_put xs text s e room low high is =
    let back : List ℕ = drop (e + length text - e) (drop e xs) in
    let all : List ℕ = take e xs ++ (text ++ back) in
    let front : length (take e xs) ≡ e = omega (arith, length-take e xs) in
    let rest : length back ≡ room - (e + length text) = omega (arith, length-drop (e + length text - e) (drop e xs), length-drop e xs) in
    let size : length all ≡ room = omega (arith, length-append (take e xs) (text ++ back), length-append text back) in
    let whole : all ++ drop (length all) xs ≡ all = ap (λ (bs : List ℕ). all ++ bs) (drop_of_length-le xs (omega arith)) ∙ append-nil all in
    let same : take room (all ++ drop (length all) xs) ≡ all = ap (take room) whole ∙ take_all room all (omega arith) in
    ap (λ (bs : List ℕ). slice_range bs s (e + length text)) same ∙ range_added xs text back s e low (omega arith)
