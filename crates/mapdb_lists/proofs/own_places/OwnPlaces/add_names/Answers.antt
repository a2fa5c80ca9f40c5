use Rattle.std.proofs.Common.{sym, subst, List}
use Rattle.mapdb_lists.specs.declared.own_place.OwnPlace.{OwnPlace}
use Rattle.mapdb_lists.specs.declared.own_places.OwnPlaces.{OwnPlaces}
use Rattle.mapdb_lists.specs.declared.many_places.ManyPlaces.{ManyPlaces}
use Rattle.mapdb_lists.specs.OwnPlaces.{AreAligned, own_list}
use Rattle.mapdb_lists.proofs.own_places.OwnPlaces.add_names.Goals as goal

pub few_names-requires : goal.few_names-requires
few_names-requires c =
    subst (λ (places : List OwnPlace). AreAligned places) (sym c.from_ref.ensures.value) (subst (λ (own : OwnPlaces). AreAligned (own_list own)) c.in-One.is c.requires)

pub few_names-requires-in-Few : goal.few_names-requires-in-Few
few_names-requires-in-Few c =
    subst (λ (places : List OwnPlace). AreAligned places) (sym c.as_slice.ensures.value) (subst (λ (own : OwnPlaces). AreAligned (own_list own)) c.in-Few.is c.requires)

pub add_names-requires : goal.add_names-requires
add_names-requires c =
    subst (λ (many : ManyPlaces). AreAligned many.places) (sym c.deref.ensures) (subst (λ (own : OwnPlaces). AreAligned (own_list own)) c.in-Many.is c.requires)
