use Rattle.std.proofs.Common.{sym, subst, List}
use Rattle.mapdb_lists.specs.declared.own_place.OwnPlace.{OwnPlace}
use Rattle.mapdb_lists.specs.declared.own_places.OwnPlaces.{OwnPlaces}
use Rattle.mapdb_lists.specs.declared.many_places.ManyPlaces.{ManyPlaces}
use Rattle.mapdb_lists.specs.OwnPlaces.{AreAligned, own_list}
use Rattle.mapdb_lists.proofs.own_places.OwnPlaces.any_meets.Goals as goal

pub few_meet-requires : goal.few_meet-requires
few_meet-requires c =
    subst (λ (places : List OwnPlace). AreAligned places) (sym c.from_ref.ensures.value) (subst (λ (own : OwnPlaces). AreAligned (own_list own)) c.in-One.is c.requires)

pub few_meet-requires-in-Few : goal.few_meet-requires-in-Few
few_meet-requires-in-Few c =
    subst (λ (places : List OwnPlace). AreAligned places) (sym c.as_slice.ensures.value) (subst (λ (own : OwnPlaces). AreAligned (own_list own)) c.in-Few.is c.requires)

pub next_meeting-requires : goal.next_meeting-requires
next_meeting-requires c =
    subst (λ (many : ManyPlaces). AreAligned many.places) (sym c.deref.ensures) (subst (λ (own : OwnPlaces). AreAligned (own_list own)) c.in-Many.is c.requires)
