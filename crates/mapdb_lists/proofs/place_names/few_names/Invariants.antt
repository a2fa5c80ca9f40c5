use Rattle.std.proofs.Common.{◌≡◌, true, drop}
use Rattle.std.specs.Prelude.{◌⊎◌}
use Rattle.mapdb_facts.specs.declared.names.RecordId.{RecordId}
use Rattle.mapdb_lists.specs.OwnPlaces.{IsNameMeeting, own_meets, stands}
use Rattle.mapdb_lists.specs.Standing.{is_named}
use Rattle.mapdb_lists.specs.declared.own_place.OwnPlace.{OwnPlace}
use Rattle.mapdb_lists.proofs.place_names.few_names.Given as goal

-- each place that meets the pages comes later, or its name is there
abbrev pub invariant-loop-place : goal.invariant-loop-place
invariant-loop-place l = record {
  kept : (id : RecordId) → is_named l.fn.names.items id ≡ true → is_named l.names.items id ≡ true;
  named : (p : OwnPlace) → stands l.places p ≡ true → own_meets p l.first l.end ≡ true
      → (stands (drop l.place-index l.places) p ≡ true) ⊎ (is_named l.names.items p.id ≡ true);
  only : (id : RecordId) → is_named l.names.items id ≡ true → (is_named l.fn.names.items id ≡ true) ⊎ IsNameMeeting l.places l.first l.end id;
}
