-- How operations are spread over the table of a set: records with near names have one group there.
use Rattle.std.specs.Prelude.{ℕ, ◌+◌, ◌-◌, ◌*◌, ◌/◌, ◌%◌, ◌^◌, ◌==◌, List, length, fold}
use Rattle.std.specs.Prelude.{if◌then◌else◌, bit_and}
use Rattle.std.specs.Int.{w64, from_le_bytes}
use Rattle.mapdb_facts.specs.declared.op_hashing.OpHasher.{OpHasher}
use Rattle.mapdb_facts.specs.NameWords.{processor_numbers}

-- nothing was fed
abbrev pub initial : OpHasher
initial = record { state = 0 }

-- a word times an odd number: what the whole word says is in the highest bits
abbrev pub product : ℕ → ℕ
product word = word * 0x9e37_79b9_7f4a_7c15 % 2 ^ 64

-- the state after one more word
abbrev pub after_word : ℕ → ℕ → ℕ
after_word state word = (product state + word) % 2 ^ 64

-- the state after bytes, each as a word
abbrev pub after_bytes : ℕ → List ℕ → ℕ
after_bytes state bytes = fold after_word state bytes

-- eight bytes as a word, the lowest first
abbrev pub little_endian : List ℕ → ℕ
little_endian bytes = from_le_bytes w64 bytes

-- the hasher after some bytes: eight are one word, and of others each is one
abbrev pub written : OpHasher → List ℕ → OpHasher
written hasher bytes = record {
  state = if length bytes == 8 then after_word hasher.state (little_endian bytes)
      else after_bytes hasher.state bytes;
}

-- the lowest two bits of a record's number, in its name as one word
abbrev pub near_bits : ℕ
near_bits = 3 * processor_numbers

-- 24 bits for a group, by all of the state but the near bits, and 8 bits to compare, by all of it
abbrev pub finish : OpHasher → ℕ
finish hasher = product (bit_and hasher.state (2 ^ 64 - 1 - near_bits)) / 2 ^ 40
    + product hasher.state / 2 ^ 56 * 2 ^ 24
