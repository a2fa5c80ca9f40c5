-- What a call that asks of one page or space tells.
use Rattle.std.specs.Prelude.{◌≡◌, ℕ, nat_lt, Option, Some, None, Result, Ok, Err, if◌then◌else◌}
use Rattle.mapdb_fpage.specs.Bounds.{page_limit}
use Rattle.mapdb_fpage.specs.RightSets.{bits_of}
use Rattle.mapdb_facts.specs.declared.names.Space.{Space}
use Rattle.mapdb_replica.specs.Pairs.{Pair}
use Rattle.mapdb_c.specs.declared.asking.Found.{Found}
use Rattle.mapdb_c.specs.declared.statuses.Status.{Status}
use Rattle.mapdb_c.specs.declared.statuses.Status.TheVariants as status

-- a frame and its rights as C has them
abbrev pub found_of : Pair → Found
found_of pair = record { frame = pair.0; rights = bits_of pair.1; reserved = 0 }

-- the frame is told, or that there is none
abbrev pub ServesAs : Option Pair → Status → Found → Found → Type 0
ServesAs (Some pair) told old new = (told ≡ status.Done) × (new ≡ found_of pair)
ServesAs None told old new = (told ≡ status.NotServed) × (new ≡ old)

-- a space, and a page of it
abbrev pub space_with_page : Result Space Status → ℕ → Result Space Status
space_with_page (Err why) page = Err why
space_with_page (Ok space) page =
    if nat_lt page page_limit then Ok space else Err status.PageOutOfSpace
