use Rattle.std.proofs.Common.{◌≡◌, ◌<◌, ◌≤◌, ℕ, true, false, length, get_or}
use Rattle.std.specs.Prelude.{◌⊎◌}
use Rattle.std.specs.Ordering.{is_gt}
use Rattle.mapdb_facts.specs.declared.names.RecordId.{RecordId}
use Rattle.mapdb_lists.specs.Ascending.{IsAtIndex}
use Rattle.mapdb_lists.specs.OwnPlaces.{IsNameFrom, place_cmp}
use Rattle.mapdb_lists.specs.Standing.{is_named}
use Rattle.mapdb_lists.specs.declared.own_place.OwnPlace.{OwnPlace}
use Rattle.mapdb_lists.proofs.place_names.list_names.Given as goal

-- each place that is gathered comes later, or its name is there; those that come are from the first on
abbrev pub invariant-places : goal.invariant-places
invariant-places l = record {
  kept : (id : RecordId) → is_named l.fn.names.items id ≡ true → is_named l.names.items id ≡ true;
  named : (j : ℕ) (p : OwnPlace) → IsAtIndex l.list j p → is_gt (place_cmp l.from p) ≡ false → p.order ≡ l.from.order → p.first < l.end
      → (l.at ≤ j) ⊎ (is_named l.names.items p.id ≡ true);
  only : (id : RecordId) → is_named l.names.items id ≡ true → (is_named l.fn.names.items id ≡ true) ⊎ IsNameFrom l.list l.from l.end id;
  behind : (j : ℕ) (d : OwnPlace) → l.at ≤ j → j < length l.list → is_gt (place_cmp l.from (get_or l.list j d)) ≡ false;
}
