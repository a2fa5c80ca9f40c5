-- A record's name, and the one word that it is kept as.
use Rattle.std.specs.Prelude.{◌≡◌, ℕ, ◌+◌, ◌-◌, ◌*◌, ◌/◌, ◌%◌, min}
use Rattle.std.proofs.Common.{ap, ◌∙◌}
use Rattle.std.proofs.Math.Nat.{div-add-mod}
use Rattle.mapdb_facts.specs.declared.limits.TheConstants.{NAME_NUMBERS, PROCESSOR_NUMBERS}

pub record Name : Type 0 where
  pub number : ℕ
  pub processor : ℕ

-- so many numbers has a byte
abbrev pub processor_numbers : ℕ
processor_numbers = PROCESSOR_NUMBERS

-- the number above the processor
abbrev pub name_word : ℕ → ℕ → ℕ
name_word number processor = processor_numbers * number + processor

-- the name of such a word
abbrev pub name_in : ℕ → Name
name_in word = record { number = word / processor_numbers; processor = word % processor_numbers }

-- the numbers of names lie below this
abbrev pub name_numbers : ℕ
name_numbers = NAME_NUMBERS

-- the name of any number: one that is too great for a name counts as the greatest
abbrev pub saturated_name : ℕ → ℕ → Name
saturated_name number processor = record {
  number = min number (name_numbers - 1);
  processor = processor;
}

-- a word says a number and a processor, and nothing else
pub name_word_comes_back : (word : ℕ)
    → name_word (word / processor_numbers) (word % processor_numbers) ≡ word
name_word_comes_back word = div-add-mod word processor_numbers
