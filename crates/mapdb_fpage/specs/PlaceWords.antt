-- Places as words: those of fpages without rights, but that the complete space has its order in the
-- bits of the size as any other place has (Fpages).
use Rattle.std.specs.Prelude.{◌≡◌, ℕ, ◌+◌, ◌*◌, ◌/◌, ◌%◌}
use Rattle.mapdb_fpage.specs.Bounds.{page_bytes}
use Rattle.mapdb_fpage.specs.Place.{IsPlace, Place}

-- the place of a word
abbrev pub place_in : ℕ → Place
place_in word = record { first_page = word / page_bytes; order = word / 16 % 64 }

-- the word of a place
abbrev pub own_word : Place → ℕ
own_word place = place.first_page * page_bytes + 16 * place.order

-- the word says a place, and nothing else
pub record IsPlaceWord (word : ℕ) : Type 0 where
  pub place : IsPlace (place_in word)
  pub whole : own_word (place_in word) ≡ word
