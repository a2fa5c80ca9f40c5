-- What a text says as a snapshot, or why it is none.
use Rattle.std.specs.Prelude.{ℕ, suc, ◌+◌, ◌*◌, ◌^◌, ◌==◌, List, [], ◌∷◌, ◌++◌, nat_lt, Option}
use Rattle.std.specs.Prelude.{Some, None, option_and_then, Result, Ok, Err, if◌then◌else◌, codes}
use Rattle.std.specs.Str.{is_utf8}
use Rattle.serde_json.specs.Data.{Data, Items, Members, item, member, no_items, no_members}
use Rattle.serde_json.specs.Find.{as_array, as_number, as_object, as_u64, get_item, get_member}
use Rattle.serde_json.specs.Read.{read}
use Rattle.mapdb_fpage.specs.Bounds.{page_bytes}
use Rattle.mapdb_fpage.specs.Place.{Place}
use Rattle.mapdb_fpage.specs.RightSets.{rights_of_bits}
use Rattle.mapdb_fpage.specs.declared.places.FpageFault.{FpageFault}
use Rattle.mapdb_fpage.specs.declared.right_sets.Rights.{Rights}
use Rattle.mapdb_facts.specs.NameWords.{saturated_name}
use Rattle.mapdb_facts.specs.declared.names.RecordId.{RecordId}
use Rattle.mapdb_facts.specs.declared.names.Space.{Space}
use Rattle.mapdb_facts.specs.declared.operations.Op.{Op}
use Rattle.mapdb_facts.specs.declared.operations.Op.TheVariants.{Born, Closed, Cut}
use Rattle.mapdb_snapshot.specs.declared.faults.SnapshotFault.{SnapshotFault}
use Rattle.mapdb_snapshot.specs.declared.faults.SnapshotFault.TheVariants as fault
use Rattle.mapdb_snapshot.specs.declared.forms.Form.{Form}
use Rattle.mapdb_snapshot.specs.Forms.{form_of, place_within, space_places}

infixl 10 ◌>>=◌
-- one step after the other, up to the first fault
abbrev pub ◌>>=◌ : {A B : Type 0} → Result A SnapshotFault → (A → Result B SnapshotFault)
    → Result B SnapshotFault
(Ok x) >>= f = f x
(Err e) >>= f = Err e

-- what must be there, for the text to have the shape
abbrev pub or_shape : {A : Type 0} → Option A → Result A SnapshotFault
or_shape (Some x) = Ok x
or_shape None = Err fault.Shape

abbrev pub below : ℕ → ℕ → Option ℕ
below limit n = if nat_lt n limit then Some n else None

-- a whole number below a limit
abbrev pub whole_below : ℕ → Data → Result ℕ SnapshotFault
whole_below limit d =
    or_shape (option_and_then (below limit) (option_and_then as_u64
    (option_and_then as_number (Some d))))

-- the number at this place of a row
abbrev pub number_at : ℕ → ℕ → Items → Result ℕ SnapshotFault
number_at place limit row = or_shape (get_item place row) >>= whole_below limit

abbrev pub items_count : Items → ℕ
items_count no_items = 0
items_count (item d ds) = suc (items_count ds)

abbrev pub members_count : Members → ℕ
members_count no_members = 0
members_count (member k d ms) = suc (members_count ms)

-- the row, if it has so many places
abbrev pub row_read : ℕ → Data → Result Items SnapshotFault
row_read count d = or_shape (option_and_then (λ row. if items_count row == count then Some row
    else None) (as_array d))

abbrev pub rights_read : ℕ → Items → Result Rights SnapshotFault
rights_read place row = do
  bits ← number_at place 8 row
  or_shape (rights_of_bits bits)

-- the name whose number and processor stand from this place on; a number that is too great for a
-- name counts as the greatest, which is none of a record either
abbrev pub name_at : ℕ → Items → Result RecordId SnapshotFault
name_at place row = do
  number ← number_at place (2 ^ 64) row
  processor ← number_at (place + 1) 256 row
  Ok (saturated_name number processor)

-- the version of a space at a place of a row; the first where rows have none
abbrev pub version_at : Form → ℕ → Items → Result ℕ SnapshotFault
version_at form place row = if form.has_versions then number_at place (2 ^ 32) row else Ok 0

-- the space whose number, and version where it has one, stand from this place on
abbrev pub space_read_at : Form → ℕ → Items → Result Space SnapshotFault
space_read_at form place row = do
  number ← number_at place 65536 row
  version ← version_at form (place + 1) row
  Ok (record { number = number; version = version })

-- the space that a number alone names
abbrev pub first_of_number : Data → Result Space SnapshotFault
first_of_number d = do
  number ← whole_below 65536 d
  Ok (record { number = number; version = 0 })

-- a space by itself: [number, version], or its number where rows have no version
abbrev pub space_read : Form → Data → Result Space SnapshotFault
space_read form d =
    if form.has_versions then row_read 2 d >>= space_read_at form 0 else first_of_number d

-- a place by its first page and its order, before it is looked at
pub record Unplaced : Type 0 where
  pub page : ℕ
  pub order : ℕ

abbrev pub unplaced_at : Form → ℕ → Items → Result Unplaced SnapshotFault
unplaced_at form place row = do
  page ← number_at place (form.most_page + 1) row
  order ← number_at (place + 1) 256 row
  Ok (record { page = page; order = order })

-- a value that stands at a place, which is looked at later
pub record Somewhere (A : Type 0) : Type 0 where
  pub place : Unplaced
  pub value : Place → A

-- [number, processor, space, space version, page, s, parent number, parent processor, source page,
-- rights], the space version where rows have one
abbrev pub record_read : Form → Data → Result (Somewhere Op) SnapshotFault
record_read form d = do
  row ← row_read (8 + space_places form) d
  id ← name_at 0 row
  space ← space_read_at form 2 row
  place ← unplaced_at form (2 + space_places form) row
  parent ← name_at (4 + space_places form) row
  source ← number_at (6 + space_places form) (form.most_source + 1) row
  rights ← rights_read (7 + space_places form) row
  Ok (record {
    place = place;
    value =
        λ at. Born (record {
          id = id;
          space = space;
          place = at;
          parent = parent;
          source = source;
          rights = rights;
        });
  })

-- [number, processor, page, s, rights]
abbrev pub cut_of : Form → Data → Result (Somewhere Op) SnapshotFault
cut_of form d = do
  row ← row_read 5 d
  target ← name_at 0 row
  place ← unplaced_at form 2 row
  rights ← rights_read 4 row
  Ok (record {
    place = place;
    value = λ at. Cut (record { target = target; part = at; rights = rights });
  })

abbrev pub end_read : Form → Data → Result Op SnapshotFault
end_read form d = do
  space ← space_read form d
  Ok (Closed space)

-- each value of a list, up to the first fault
abbrev pub all_of : {A : Type 0} → (Data → Result A SnapshotFault) → Items
    → Result (List A) SnapshotFault
all_of read_one no_items = Ok []
all_of read_one (item d ds) = do
  one ← read_one d
  rest ← all_of read_one ds
  Ok (one ∷ rest)

-- the list under a key
abbrev pub list_under : {A : Type 0} → List ℕ → (Data → Result A SnapshotFault) → Members
    → Result (List A) SnapshotFault
list_under key read_one members =
    or_shape (option_and_then as_array (get_member key members)) >>= all_of read_one

abbrev pub or_page : {A : Type 0} → (Place → A) → Result Place FpageFault → Result A SnapshotFault
or_page value (Ok place) = Ok (value place)
or_page value (Err f) = Err (fault.Page f)

-- the values at their places, or the fault of the first place that is none
abbrev pub placed_all : {A : Type 0} → Form → List (Somewhere A) → Result (List A) SnapshotFault
placed_all form [] = Ok []
placed_all form (one ∷ rest) = do
  first ← or_page one.value (place_within form.top_order form.address_limit
      (one.place.page * page_bytes) one.place.order)
  others ← placed_all form rest
  Ok (first ∷ others)

abbrev pub version_of : Members → Result ℕ SnapshotFault
version_of members = or_shape (get_member (codes "version") members) >>= whole_below (2 ^ 64)

-- the lists of a snapshot of this form, in which no other key stands
abbrev pub form_lists : Form → Members → Result (List Op) SnapshotFault
form_lists form members = do
  cuts ← list_under (codes "cuts") (cut_of form) members
  ends ← list_under (codes "ended") (end_read form) members
  records ← list_under (codes "records") (record_read form) members
  born ← placed_all form records
  cut ← placed_all form cuts
  Ok (born ++ cut ++ ends)

-- the lists, where the version is read and no other key stands
abbrev pub read_as : Option Form → Members → Result (List Op) SnapshotFault
read_as None found = Err fault.Version
read_as (Some form) found = if members_count found == 4 then form_lists form found
    else Err fault.Shape

-- What JSON says as a snapshot: the records, then the revocations, then the ends, each in the order
-- of the text.
abbrev pub operations_of : Data → Result (List Op) SnapshotFault
operations_of d = do
  members ← or_shape (as_object d)
  version ← version_of members
  read_as (form_of version) members

abbrev pub or_not_json : Option Data → Result (List Op) SnapshotFault
or_not_json None = Err fault.NotJson
or_not_json (Some d) = operations_of d

-- what a text says
abbrev pub snapshot_of : List ℕ → Result (List Op) SnapshotFault
snapshot_of bytes = if is_utf8 bytes then or_not_json (read bytes) else Err fault.NotJson
