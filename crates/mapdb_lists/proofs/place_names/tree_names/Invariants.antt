use Rattle.std.proofs.Common.{◌≡◌, ◌<◌, true, false}
use Rattle.std.specs.Prelude.{◌⊎◌}
use Rattle.std.specs.Ordering.{is_gt}
use Rattle.std.specs.List.Sorted.{IsStrictlySortedBy}
use Rattle.mapdb_facts.specs.declared.names.RecordId.{RecordId}
use Rattle.mapdb_lists.specs.OwnPlaces.{IsNameFrom, place_cmp, stands}
use Rattle.mapdb_lists.specs.Standing.{is_named}
use Rattle.mapdb_lists.specs.declared.own_place.OwnPlace.{OwnPlace}
use Rattle.mapdb_lists.proofs.place_names.tree_names.Given as goal

-- each place that is gathered comes later, or its name is there; those that come are in their order, from the first on
abbrev pub invariant-loop-place : goal.invariant-loop-place
invariant-loop-place l = record {
  next : (goal.iterator-loop-place).can_next l.place-iterator;
  finite : (goal.iterator-loop-place).is_finite l.place-iterator;
  kept : (id : RecordId) → is_named l.fn.names.items id ≡ true → is_named l.names.items id ≡ true;
  only : (id : RecordId) → is_named l.names.items id ≡ true → (is_named l.fn.names.items id ≡ true) ⊎ IsNameFrom l.tree.keys l.from l.end id;
  held : (p : OwnPlace) → stands l.place-iterator p ≡ true → stands l.tree.keys p ≡ true;
  sorted : IsStrictlySortedBy place_cmp l.place-iterator;
  up : (p : OwnPlace) → stands l.place-iterator p ≡ true → is_gt (place_cmp l.from p) ≡ false;
  named : (p : OwnPlace) → stands l.tree.keys p ≡ true → is_gt (place_cmp l.from p) ≡ false → p.order ≡ l.from.order → p.first < l.end
      → (stands l.place-iterator p ≡ true) ⊎ (is_named l.names.items p.id ≡ true);
}
