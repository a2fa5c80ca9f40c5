-- What commands C gives.
use Rattle.std.specs.Prelude.{ℕ, ◌==◌, not, Option, Result, Ok, Err}
use Rattle.mapdb_fpage.specs.Place.{Place}
use Rattle.mapdb_fpage.specs.Words.{item_of_words, page_of_word}
use Rattle.mapdb_fpage.specs.Words as words
use Rattle.mapdb_fpage.specs.declared.items.MapItem.{MapItem}
use Rattle.mapdb_fpage.specs.declared.right_sets.Rights.{Rights}
use Rattle.mapdb_replica.specs.declared.commands.Command.{Command}
use Rattle.mapdb_replica.specs.declared.commands.Command.TheVariants.{End, Map, Unmap}
use Rattle.mapdb_c.specs.FaultStatuses.{item_status, word_status}
use Rattle.mapdb_c.specs.RawPlaces.{◌>>=◌, fpage_of, space_given, window_of, with_status}
use Rattle.mapdb_c.specs.declared.raw_places.RawFpage.{RawFpage}
use Rattle.mapdb_c.specs.declared.raw_places.RawSpace.{RawSpace}
use Rattle.mapdb_c.specs.declared.statuses.Status.{Status}

-- the map item of the kernel's two words
abbrev pub item_of : ℕ → ℕ → Result MapItem Status
item_of first second = with_status item_status (item_of_words first second)

-- the receive window of a word
abbrev pub window_given : ℕ → Result (Option Place) Status
window_given word = with_status word_status (words.window_of_word word)

-- the fpage and the rights of a word
abbrev pub word_page : ℕ → Result (Option Place × Rights) Status
word_page word = with_status word_status (page_of_word word)

-- the Map of an item by value
abbrev pub map_command : RawSpace → ℕ → RawFpage → RawSpace → RawFpage → Result Command Status
map_command sender send_base page receiver window = do
  from ← space_given sender
  named ← fpage_of page
  to ← space_given receiver
  within ← window_of window
  Ok (Map from (record { send_base = send_base; page = named.0; rights = named.1 }) to within)

-- the Map of the kernel's words
abbrev pub word_map_command : RawSpace → ℕ → ℕ → RawSpace → ℕ → Result Command Status
word_map_command sender first second receiver window = do
  from ← space_given sender
  item ← item_of first second
  to ← space_given receiver
  within ← window_given window
  Ok (Map from item to within)

-- the Unmap of an fpage by value; a flush that is not 0 is one
abbrev pub unmap_command : RawSpace → RawFpage → ℕ → Result Command Status
unmap_command space page flush = do
  from ← space_given space
  named ← fpage_of page
  Ok (Unmap from named.0 named.1 (not (flush == 0)))

-- the Unmap of an fpage word; a flush that is not 0 is one
abbrev pub word_unmap_command : RawSpace → ℕ → ℕ → Result Command Status
word_unmap_command space word flush = do
  from ← space_given space
  named ← word_page word
  Ok (Unmap from named.0 named.1 (not (flush == 0)))

-- the end of a space
abbrev pub end_command : RawSpace → Result Command Status
end_command space = do
  from ← space_given space
  Ok (End from)
