use Rattle.std.proofs.Common.{◌≡◌, true, length}
use Rattle.std.specs.Prelude.{◌⊎◌}
use Rattle.mapdb_lists.specs.OwnPlaces.{ahead, own_list, stands}
use Rattle.mapdb_lists.specs.declared.own_place.OwnPlace.{OwnPlace}
use Rattle.mapdb_rights.proofs.index.ordered_places.gathered.Given as goal

-- those that were gathered are the owner's, and all others are ahead
abbrev pub invariant-places : goal.invariant-places
invariant-places l = record {
  known : (p : OwnPlace) → stands l.places.items p ≡ true → stands (own_list l.own) p ≡ true;
  all : (p : OwnPlace) → stands (own_list l.own) p ≡ true → (stands (ahead l.own l.sweep) p ≡ true) ⊎ (stands l.places.items p ≡ true);
}

abbrev pub decreases-places : goal.decreases-places
decreases-places l = length (ahead l.own l.sweep)
