-- What is known of the next line of a script where what it says went on to something.
use Rattle.std.proofs.Common.{◌≡◌, ℕ, ◌+◌, ◌<◌, ◌≤◌, Bool, true, false, List, ◌++◌, length, cond, refl, arith}
use Rattle.std.specs.Prelude.{nat_le, nat_lt, Option, Result, Ok, Err}
use Rattle.std.proofs.lemmas.List.{length-append}
use Rattle.std.proofs.lemmas.Bool.{lt-ltb, ltb-false, leb-false}
use Rattle.mapdb_lines.specs.Grammar.{next_said, said_by}
use Rattle.mapdb_lines.specs.Limits.{line_limit, most_lines}
use Rattle.mapdb_lines.specs.Spellings.{◌>>=◌}
use Rattle.mapdb_lines.specs.declared.fault.LineFault.{LineFault}
use Rattle.mapdb_lines.specs.declared.fault.LineFault.TheVariants as fault
use Rattle.mapdb_lines.specs.declared.lines.Line.{Line}

-- what a long line says does not depend on its end
pub next_long : (lines : ℕ) (line more : List ℕ) → line_limit < length line → next_said lines (line ++ more) ≡ next_said lines line
unfolding next_said
next_long lines line more long =
    let whole : nat_lt line_limit (length (line ++ more)) ≡ true = lt-ltb line_limit (length (line ++ more)) (omega (arith, length-append line more)) in
    let front : nat_lt line_limit (length line) ≡ true = lt-ltb line_limit (length line) long in
    rw (whole, front) refl

-- a line behind so many others, and of so many bytes, and whether it is one too many or too long
module _ {A : Type 0} (lines size : ℕ) (said : Result (Option Line) LineFault) (go_on : Option Line → Result A LineFault) (last : A) where
  abbrev next : Bool → Bool → Result (Option Line) LineFault
  next many long = cond many (Err fault.TooManyLines) (cond long (Err fault.TooLong) said)

  few_by : (many long : Bool) → nat_le most_lines lines ≡ many → (next many long >>= go_on) ≡ Ok last → lines + 1 ≤ most_lines
  few_by true long is e = cc
  few_by false long is e = let below : lines < most_lines = leb-false most_lines lines is in omega arith

  short_by : (many long : Bool) → nat_lt line_limit size ≡ long → (next many long >>= go_on) ≡ Ok last → size ≤ line_limit
  short_by true long is e = cc
  short_by false true is e = cc
  short_by false false is e = ltb-false line_limit size is

  says_by : (many long : Bool) → (next many long >>= go_on) ≡ Ok last → next many long ≡ said
  says_by true long e = cc
  says_by false true e = cc
  says_by false false e = refl

module _ {A : Type 0} (lines : ℕ) (bytes : List ℕ) (go_on : Option Line → Result A LineFault) (last : A) (e : (next_said lines bytes >>= go_on) ≡ Ok last) where
  -- it is not one too many
  pub next_few : lines + 1 ≤ most_lines
  unfolding next_said
  next_few = few_by lines (length bytes) (said_by bytes) go_on last (nat_le most_lines lines) (nat_lt line_limit (length bytes)) refl e

  -- it is not too long
  pub next_short : length bytes ≤ line_limit
  unfolding next_said
  next_short = short_by lines (length bytes) (said_by bytes) go_on last (nat_le most_lines lines) (nat_lt line_limit (length bytes)) refl e

  -- it says what it would say alone
  pub next_says : next_said lines bytes ≡ said_by bytes
  unfolding next_said
  next_says = says_by lines (length bytes) (said_by bytes) go_on last (nat_le most_lines lines) (nat_lt line_limit (length bytes)) e
