use Rattle.std.proofs.Common.{◌≡◌, ◌≤◌, ◌<◌, ◌+◌, ◌*◌, ℕ, true, drop, length}
use Rattle.std.specs.Prelude.{◌⊎◌}
use Rattle.mapdb_fpage.specs.Place.{holds}
use Rattle.mapdb_facts.specs.Facts.{state_of_facts}
use Rattle.mapdb_facts.specs.Looking.{Holds}
use Rattle.mapdb_facts.specs.declared.names.RecordId.{RecordId}
use Rattle.mapdb_facts.specs.declared.operations.Record.{Record}
use Rattle.mapdb_lists.specs.Listing.{own_place}
use Rattle.mapdb_lists.specs.OwnPlaces.{own_list, stands}
use Rattle.mapdb_rights.specs.Right.{source_page}
use Rattle.mapdb_rights.specs.HeldPlaces.{source_of}
use Rattle.mapdb_rights.specs.Pending.{IsPending, share, weight}
use Rattle.mapdb_rights.proofs.index.children.push_sources.Given as goal

-- each child that meets the pages comes later, or its pages are stale
abbrev pub invariant-loop-place : goal.invariant-loop-place
invariant-loop-place l = record {
  kept : (id : RecordId) (page : ℕ) → IsPending l.fn.stack.items id page → IsPending l.stack.items id page;
  stale : (r : Record) → Holds (state_of_facts l.facts) r → r.parent ≡ l.parent → stands (own_list l.own) (own_place (source_of r)) ≡ true → (page : ℕ)
      → holds r.place page ≡ true → l.first ≤ source_page r page → source_page r page < l.end
      → (stands (drop l.place-index l.places) (own_place (source_of r)) ≡ true) ⊎ IsPending l.stack.items r.id page;
  counted : (base : ℕ) → 0 < base
      → weight base l.stack.items + length (drop l.place-index l.places) * share base (l.parent.number + 1)
      ≤ weight base l.fn.stack.items + length (own_list l.own) * share base (l.parent.number + 1);
}
