-- What C's spaces and fpages say, or the status of what is wrong with them.
use Rattle.std.specs.Prelude.{ℕ, ◌==◌, nat_le, nat_lt, Option, Some, None, Result, Ok, Err}
use Rattle.std.specs.Prelude.{if◌then◌else◌}
use Rattle.std.specs.Option.{ok_or}
use Rattle.mapdb_fpage.specs.Addresses.{place_at}
use Rattle.mapdb_fpage.specs.Place.{Place}
use Rattle.mapdb_fpage.specs.RightSets.{rights_of_bits}
use Rattle.mapdb_fpage.specs.declared.right_sets.Rights.{Rights}
use Rattle.mapdb_facts.specs.declared.names.Space.{Space}
use Rattle.mapdb_c.specs.FaultStatuses.{place_status}
use Rattle.mapdb_c.specs.declared.raw_places.RawFpage.{RawFpage}
use Rattle.mapdb_c.specs.declared.raw_places.RawSpace.{RawSpace}
use Rattle.mapdb_c.specs.declared.statuses.Status.{Status}
use Rattle.mapdb_c.specs.declared.statuses.Status.TheVariants as status

infixl 10 ◌>>=◌
-- one step after the other, up to the first that is wrong
abbrev pub ◌>>=◌ : {A B : Type 0} → Result A Status → (A → Result B Status) → Result B Status
(Ok x) >>= f = f x
(Err e) >>= f = Err e

-- the number of a space, which is below 2 ^ 16
abbrev pub number_within : ℕ → Result ℕ Status
number_within number = if nat_lt number 65536 then Ok number else Err status.BadSpace

-- the space, whose number is below 2 ^ 16
abbrev pub space_given : RawSpace → Result Space Status
space_given raw = number_within raw.number
    >>= (λ number. Ok (record { number = number; version = raw.version }))

-- the space as C has it
abbrev pub raw_space : Space → RawSpace
raw_space space = record { number = space.number; version = space.version }

-- the value, or the status of what is wrong with it
abbrev pub with_status : {A F : Type 0} → (F → Status) → Result A F → Result A Status
with_status status_of (Ok value) = Ok value
with_status status_of (Err fault) = Err (status_of fault)

-- the rights of a value below 8
abbrev pub rights_of : ℕ → Result Rights Status
rights_of value = ok_or (rights_of_bits value) status.BadRights

-- the place of 2 ^ order bytes from the address on
abbrev pub place_given : ℕ → ℕ → Result Place Status
place_given address order = with_status place_status (place_at address order)

-- the place, or nil, whose order is 0
abbrev pub optional_place : ℕ → ℕ → Result (Option Place) Status
optional_place address order = if order == 0 then Ok None
    else (place_given address order >>= (λ place. Ok (Some place)))

-- the receive window, whose rights are not looked at
abbrev pub window_of : RawFpage → Result (Option Place) Status
window_of raw = optional_place raw.address raw.order

-- the fpage with its rights
abbrev pub fpage_of : RawFpage → Result (Option Place × Rights) Status
fpage_of raw = do
  place ← optional_place raw.address raw.order
  rights ← rights_of raw.rights
  Ok (place, rights)
