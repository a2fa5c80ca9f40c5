-- The places that words spell are places.
use Rattle.std.proofs.Common.{◌≡◌, ℕ, ◌<◌, ◌≤◌, ◌-◌, ◌%◌, ◌/◌, ◌^◌, Bool, true, false, Err, Ok, Result, Some, refl, List, arith}
use Rattle.std.specs.Prelude.{◌==◌, ◌&&◌, IfOk, IfSome, None, Option, codes, if◌then◌else◌, nat_le, nat_lt, not}
use Rattle.std.specs.Str.{bytes_eq}
use Rattle.std.proofs.lemmas.Bool.{eqb-true, leb-false, ltb-false}
use Rattle.mapdb_fpage.specs.Addresses.{place_at}
use Rattle.mapdb_fpage.specs.Bounds.{address_limit, least_order, page_bytes, top_order}
use Rattle.mapdb_fpage.specs.Place.{IsPlace, Place, whole}
use Rattle.mapdb_fpage.specs.Words.{base_in, is_clear, is_grant, is_map, is_reserved, item_of_words, item_with, page_of_word, region, rights_in, size_in, some_place, window_of_word, with_rights}
use Rattle.mapdb_fpage.specs.declared.items.MapItem.{MapItem}
use Rattle.mapdb_fpage.specs.declared.places.FpageFault.{FpageFault}
use Rattle.mapdb_fpage.specs.declared.places.FpageFault.TheVariants.{OutOfSpace, TooLarge, TooSmall, Unaligned}
use Rattle.mapdb_fpage.specs.declared.right_sets.Rights.{Rights}
use Rattle.mapdb_fpage.specs.declared.words.ItemFault.{ItemFault}
use Rattle.mapdb_fpage.specs.declared.words.ItemFault.TheVariants as item_fault
use Rattle.mapdb_fpage.specs.declared.words.WordFault.{WordFault}
use Rattle.mapdb_fpage.specs.declared.words.WordFault.TheVariants as word_fault
use Rattle.mapdb_fpage.proofs.Aligned.{address_place}
use Rattle.mapdb_lines.specs.Spellings.{◌>>=◌, fpage_at, item_at, or_item_fault, or_fault, or_page_fault, or_word_fault, place_by, rights_word_at, send_at, window_at, word_at}
use Rattle.mapdb_lines.specs.Limits.{decimal_digits, place_digits}
use Rattle.mapdb_lines.specs.Words.{number_of, split_at}
use Rattle.mapdb_lines.specs.declared.fault.LineFault.{LineFault}
use Rattle.mapdb_lines.specs.declared.fault.LineFault.TheVariants as fault

-- Addresses and words.

module _ (address order : ℕ) where
  if_aligned : 12 ≤ order → order ≤ 48 → address < 281474976710656 → (b : Bool) → ((address % 2 ^ order) == 0) ≡ b
      → IfOk (if not b then Err Unaligned else Ok (record { first_page = address / page_bytes; order = order })) IsPlace
  if_aligned least most below false e = tt
  if_aligned least most below true e = address_place address order least most below (eqb-true (address % 2 ^ order) 0 e)

  if_in_space : 12 ≤ order → order ≤ 48 → (b : Bool) → nat_le address_limit address ≡ b
      → IfOk (if b then Err OutOfSpace else (if not ((address % 2 ^ order) == 0) then Err Unaligned else Ok (record { first_page = address / page_bytes; order = order }))) IsPlace
  if_in_space least most true e = tt
  if_in_space least most false e = if_aligned least most (leb-false address_limit address e) ((address % 2 ^ order) == 0) refl

  if_small : 12 ≤ order → (b : Bool) → nat_lt top_order order ≡ b
      → IfOk (if b then Err TooLarge else (if nat_le address_limit address then Err OutOfSpace else (if not ((address % 2 ^ order) == 0) then Err Unaligned else Ok (record { first_page = address / page_bytes; order = order })))) IsPlace
  if_small least true e = tt
  if_small least false e = if_in_space least (ltb-false top_order order e) (nat_le address_limit address) refl

  if_large : (b : Bool) → nat_lt order least_order ≡ b
      → IfOk (if b then Err TooSmall else (if nat_lt top_order order then Err TooLarge else (if nat_le address_limit address then Err OutOfSpace else (if not ((address % 2 ^ order) == 0) then Err Unaligned else Ok (record { first_page = address / page_bytes; order = order }))))) IsPlace
  if_large true e = tt
  if_large false e = if_small (ltb-false order least_order e) (nat_lt top_order order) refl

  named_place : IfOk (place_at address order) IsPlace
  named_place = if_large (nat_lt order least_order) refl

whole_place : IsPlace whole
whole_place = record { at_least_a_page = omega arith; at_most_all = omega arith; aligned = refl; in_space = omega arith }

-- what is named, if anything is, is a place
abbrev pub IsPage : Option Place → Type 0
IsPage page = IfSome page IsPlace

some_page : (o : Result Place FpageFault) → IfOk o IsPlace → IfOk (some_place o) IsPage
some_page (Ok place) is = is
some_page (Err why) is = tt

by_region : (nil all : Bool) (o : Result Place FpageFault) → IfOk o IsPlace → IfOk (if nil then Ok None else (if all then Ok (Some whole) else some_place o)) IsPage
by_region true all o is = tt
by_region false true o is = whole_place
by_region false false o is = some_page o is

region_page : (base size : ℕ) → IfOk (region base size) IsPage
region_page base size = by_region ((base == 0) && (size == 0)) ((base == 0) && (size == 1)) (place_at base size) (named_place base size)

with_page : (rights : Rights) (o : Result (Option Place) WordFault) → IfOk o IsPage → IfOk (with_rights rights o) (λ page. IsPage page.0)
with_page rights (Ok page) is = is
with_page rights (Err why) is = tt

word_page : (b : Bool) (o : Result (Option Place × Rights) WordFault) → IfOk o (λ page. IsPage page.0) → IfOk (if b then Err word_fault.ReservedBit else o) (λ page. IsPage page.0)
word_page true o is = tt
word_page false o is = is

item_page : (send_base : ℕ) (o : Result (Option Place × Rights) WordFault) → IfOk o (λ page. IsPage page.0) → IfOk (item_with send_base o) (λ item. IsPage item.page)
item_page send_base (Ok (page, rights)) is = is
item_page send_base (Err why) is = tt

by_kind : (grant map clear : Bool) (o : Result MapItem ItemFault) → IfOk o (λ item. IsPage item.page)
    → IfOk (if grant then Err item_fault.Grant else (if map then (if clear then o else Err item_fault.ReservedBits) else Err item_fault.NotMapItem)) (λ item. IsPage item.page)
by_kind true map clear o is = tt
by_kind false false clear o is = tt
by_kind false true false o is = tt
by_kind false true true o is = is

words_page : (first second : ℕ) → IfOk (item_of_words first second) (λ item. IsPage item.page)
words_page first second =
    by_kind (is_grant first) (is_map first) (is_clear first) (item_with (base_in first) (page_of_word second))
    (item_page (base_in first) (page_of_word second)
    (word_page (is_reserved second) (with_rights (rights_in second) (region (base_in second) (size_in second)))
    (with_page (rights_in second) (region (base_in second) (size_in second)) (region_page (base_in second) (size_in second)))))

-- Spellings.

-- what is read is so, where there is no fault
pub record Gives {A : Type 0} (o : Result A LineFault) (P : A → Type 0) : Type 0 where
  pub holds : IfOk o P

-- one step after the other
pub step : {A B : Type 0} → (o : Result A LineFault) (f : A → Result B LineFault) (P : B → Type 0) → ((x : A) → Gives (f x) P) → Gives (o >>= f) P
step (Ok x) f P each = record { holds = (each x).holds }
step (Err why) f P each = record { holds = tt }

-- one step after the other, where the first gives what the second wants
pub step_with : {A B : Type 0} → (o : Result A LineFault) (f : A → Result B LineFault) (Q : A → Type 0) (P : B → Type 0) → Gives o Q → ((x : A) → Q x → Gives (f x) P) → Gives (o >>= f) P
step_with (Ok x) f Q P is each = record { holds = (each x is.holds).holds }
step_with (Err why) f Q P is each = record { holds = tt }

or_page : (o : Result Place FpageFault) → IfOk o IsPlace → IfOk (or_page_fault o) IsPage
or_page (Ok place) is = is
or_page (Err why) is = tt

or_item : (o : Result MapItem ItemFault) → IfOk o (λ item. IsPage item.page) → IfOk (or_item_fault o) (λ item. IsPage item.page)
or_item (Ok item) is = is
or_item (Err why) is = tt

or_window : (o : Result (Option Place) WordFault) → IfOk o IsPage → IfOk (or_word_fault o) IsPage
or_window (Ok window) is = is
or_window (Err why) is = tt

spelled_place : (word : List ℕ) → Gives (place_by word) IsPage
unfolding place_by
spelled_place word =
    step (or_fault (split_at 47 word) fault.PageSyntax) _ IsPage (λ part.
    step (or_fault (number_of 16 place_digits (2 ^ 64 - 1) part.0) fault.PageSyntax) _ IsPage (λ address.
    step (or_fault (number_of 10 decimal_digits 255 part.1) fault.PageSyntax) _ IsPage (λ order. record { holds = or_page (place_at address order) (named_place address order) })))

by_name : (nil all : Bool) (o : Result (Option Place) LineFault) → IfOk o IsPage → IfOk (if nil then Ok None else (if all then Ok (Some whole) else o)) IsPage
by_name true all o is = tt
by_name false true o is = whole_place
by_name false false o is = is

pub spelled_page : (word : List ℕ) → Gives (fpage_at word) IsPage
unfolding fpage_at
spelled_page word = record { holds = by_name (bytes_eq word (codes "nil")) (bytes_eq word (codes "all")) (place_by word) (spelled_place word).holds }

pub spelled_send : (word : List ℕ) → Gives (send_at word) (λ send. IsPage send.0)
unfolding send_at
spelled_send word =
    step (or_fault (split_at 58 word) fault.PageSyntax) _ (λ send. IsPage send.0) (λ part.
    step_with (fpage_at part.0) _ IsPage (λ send. IsPage send.0) (spelled_page part.0) (λ page is.
    step (rights_word_at part.1) _ (λ send. IsPage send.0) (λ rights. record { holds = is })))

pub spelled_item : (first second : List ℕ) → Gives (item_at first second) (λ item. IsPage item.page)
unfolding item_at
spelled_item first second =
    step (word_at first) _ (λ item. IsPage item.page) (λ one.
    step (word_at second) _ (λ item. IsPage item.page) (λ two. record { holds = or_item (item_of_words one two) (words_page one two) }))

pub spelled_window : (word : List ℕ) → Gives (window_at word) IsPage
unfolding window_at
spelled_window word = step (word_at word) _ IsPage (λ value. record { holds = or_window (window_of_word value) (region_page (base_in value) (size_in value)) })
