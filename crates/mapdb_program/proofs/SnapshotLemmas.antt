-- What was read and written of a snapshot, and what that tells.
use Rattle.std.proofs.Common.{◌≡◌, ◌<◌, ◌≤◌, ◌+◌, ℕ, Bool, true, false, arith, length, length-append, List, [], ◌++◌, inl, inr, refl, sym, ap, subst, ◌∙◌, take}
use Rattle.std.specs.Prelude.{◌⊎◌, Option, Some, None, Result, Ok, Err, IfOk, IfErr, ◌||◌, ◌&&◌, ◌==◌, nat_lt}
use Rattle.std.specs.Result.{IsErr, IsErrAnd}
use Rattle.std.specs.Io.KnownBytes.{Consumes}
use Rattle.std.proofs.Math.ListN.{length-take}
use Rattle.std.proofs.Math.Seq.{take-append_seam}
use Rattle.std.proofs.lemmas.Bool.{false≢true}
use Rattle.std.proofs.lemmas.Bool.Decides.{nat_tests}
use mathlib.Core.Bool.{or-false, or-true}
use Rattle.std.proofs.KnownBytes.{Consumes-kept, Consumes-nil}
use Rattle.mapdb_lines.specs.Limits.{line_limit, read_ahead}
use Rattle.mapdb_picture.specs.declared.faults.LoadFault.{LoadFault}
use Rattle.mapdb_picture.specs.declared.faults.LoadFault.TheVariants.{Memory}
use Rattle.mapdb_program.specs.Snapshots.{IsAll, IsFront, IsLittle, IsUnread, TellsSnapshot, answer_told, tell_out_of_memory}
use Rattle.mapdb_program.specs.declared.snapshots.Asked.{Asked}
use Rattle.mapdb_program.specs.declared.snapshots.TellFault.{TellFault}
use Rattle.mapdb_program.specs.declared.snapshots.TellFault.TheVariants.{Load, Read, TooLong, Write}

-- a read that took 0 bytes
pub consumes_zero : (a b c : Option (List ℕ)) (x piece : List ℕ) (n : ℕ) → n ≡ 0 → Consumes a b x → Consumes b c (take n piece) → Consumes a c x
consumes_zero None b c x piece n zero h k = tt
consumes_zero (Some p) None c x piece n zero h k = absurd h
consumes_zero (Some p) (Some q) None x piece n zero h k = absurd k
consumes_zero (Some p) (Some q) (Some r) x piece n zero h k =
    h ∙ ap (λ (bs : List ℕ). x ++ bs) (k ∙ ap (λ (m : ℕ). take m piece ++ r) zero)

-- what a text of which a front was written tells
pub front_told : (asked : Asked) (result : Result (Unit {0}) TellFault) (input whole front : List ℕ) (Over : Type 0)
    → IsAll input Over → answer_told asked input ≡ Ok whole → IsFront result whole front → TellsSnapshot asked result input front Over
front_told asked (Ok done) input whole front Over over is written = (over, is ∙ ap (λ (bs : List ℕ). Ok bs) (sym written))
front_told asked (Err Write) input whole front Over over is written = (over, (whole, is, written))
front_told asked (Err Read) input whole front Over over is written = absurd written
front_told asked (Err TooLong) input whole front Over over is written = absurd written
front_told asked (Err (Load fault)) input whole front Over over is written = absurd written

-- what running out of memory tells
pub told_memory : {A : Type 0} (P : A → Type 0) (result : Result A TellFault) (input : List ℕ) → IsLittle input → IsErr result → IsErrAnd result (λ (why : TellFault). why ≡ tell_out_of_memory)
    → IfOk result P × IfErr result (λ (why : TellFault). IsUnread why input)
told_memory P (Ok a) input little h k = absurd (false≢true h)
told_memory P (Err why) input little h k = (tt, subst (λ (x : TellFault). IsUnread x input) (sym k) (refl, little))

-- a read that did not fail
pub worked : (before now : Bool) → now ≡ (before || false) → before ≡ false → now ≡ true → ⊥
worked before now is works failed = false≢true (sym (is ∙ ap (λ (b : Bool). b || false) works) ∙ failed)

-- a read that failed shows no end
pub shows_no_end : (start before now : Bool) → now ≡ (before || false) → before ≡ start → now ≡ start
shows_no_end start before now is same = is ∙ or-false before ∙ same

not_zero : (n : ℕ) → 0 < n → (n == 0) ≡ false
not_zero n some = grind (arith, nat_tests)

-- .. and neither does one that gave something
pub went_on : (start before now : Bool) (count room : ℕ) → now ≡ (before || ((count == 0) && nat_lt 0 room)) → 0 < count → before ≡ start → now ≡ start
went_on start before now count room is some same = shows_no_end start before now (is ∙ ap (λ (b : Bool). before || (b && nat_lt 0 room)) (not_zero count some)) same

above_none : (m : ℕ) → 0 < m → nat_lt 0 m ≡ true
above_none m some = grind (arith, nat_tests)

-- a reader that gave nothing of a piece that is not empty has ended
pub ended_now : (before now : Bool) (count room : ℕ) → now ≡ (before || ((count == 0) && nat_lt 0 room)) → count ≡ 0 → 0 < room → now ≡ true
ended_now before now count room is zero some =
    is ∙ ap (λ (n : ℕ). before || ((n == 0) && nat_lt 0 room)) zero ∙ ap (λ (b : Bool). before || b) (above_none room some) ∙ or-true before

-- the piece that was read into, as it lies in its list
pub piece_read : (count room : ℕ) (piece rest : List ℕ) → room ≡ length piece → take count (take room (piece ++ rest)) ≡ take count piece
piece_read count room piece rest is = ap (λ (bs : List ℕ). take count bs) (ap (λ (n : ℕ). take n (piece ++ rest)) is ∙ take-append_seam piece rest)

-- a piece more, where what was read so far is no longer than it may be
pub grows_little : (input piece new : List ℕ) (count : ℕ) → new ≡ input ++ take count piece → length input ≤ line_limit → count ≤ read_ahead → length new ≤ line_limit + read_ahead
grows_little input piece new count is short few =
    let both = ap length is ∙ length-append input (take count piece) in
    let taken = length-take count piece in
    omega arith

little_all : (input : List ℕ) (Over : Type 0) → IsAll input Over → IsLittle input
little_all input Over over = let short = over.1 in omega arith

-- what is told where nothing is told of a text
pub fault_told : (asked : Asked) (result : Result (Unit {0}) TellFault) (input : List ℕ) (fault : LoadFault) (Over : Type 0) → IsErr result → IsErrAnd result (λ (why : TellFault). why ≡ Load fault)
    → IsAll input Over → (fault ≡ Memory) ⊎ (answer_told asked input ≡ Err fault) → TellsSnapshot asked result input [] Over
fault_told asked (Ok done) input fault Over h k over told = absurd (false≢true h)
fault_told asked (Err why) input fault Over h k over told =
    subst (λ (x : TellFault). TellsSnapshot asked (Err x) input [] Over) (sym k)
    (refl, elim told [ inl memory ↦ inl (memory, little_all input Over over) | inr is ↦ inr (over, is) ])
