use Rattle.std.proofs.Common.{◌≡◌, ℕ, true, length}
use Rattle.std.specs.Prelude.{◌⊎◌}
use Rattle.mapdb_fpage.specs.Place.{IsPlace, holds}
use Rattle.mapdb_facts.specs.Facts.{state_of_facts}
use Rattle.mapdb_facts.specs.Looking.{Holds}
use Rattle.mapdb_facts.specs.declared.operations.Record.{Record}
use Rattle.mapdb_lists.specs.Listing.{own_place}
use Rattle.mapdb_lists.specs.OwnPlaces.{ahead, own_list, stands}
use Rattle.mapdb_rights.specs.HeldPlaces.{place_of}
use Rattle.mapdb_rights.specs.Pending.{IsPending}
use Rattle.mapdb_rights.proofs.index.children.push_places.Given as goal

-- each record that stands at a place comes later, or its pages are stale
abbrev pub invariant-places : goal.invariant-places
invariant-places l = (r : Record) → Holds (state_of_facts l.facts) r → IsPlace r.place → stands (own_list l.own) (own_place (place_of r)) ≡ true → (page : ℕ)
    → holds r.place page ≡ true → (stands (ahead l.own l.sweep) (own_place (place_of r)) ≡ true) ⊎ IsPending l.stack.items r.id page

abbrev pub decreases-places : goal.decreases-places
decreases-places l = length (ahead l.own l.sweep)
