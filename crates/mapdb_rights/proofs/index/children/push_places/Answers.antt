use Rattle.std.proofs.Common.{◌≡◌, ap, subst, ◌∙◌, inl, inr}
use Rattle.mapdb_facts.specs.Facts.{state_of_facts}
use Rattle.mapdb_facts.specs.State.{State}
use Rattle.mapdb_facts.specs.declared.names.RecordId.{RecordId}
use Rattle.mapdb_lists.specs.declared.own_place.OwnPlace.{OwnPlace}
use Rattle.mapdb_lists.specs.Listing.{own_place}
use Rattle.mapdb_lists.proofs.PlaceLemmas.OwnSweeps.{start_ahead}
use Rattle.mapdb_rights.specs.HeldPlaces.{place_of}
use Rattle.mapdb_rights.specs.Pending.{IsPending}
use Rattle.mapdb_rights.proofs.Places.Sweeps.{place_meets}
use Rattle.mapdb_rights.proofs.index.children.push_places.Goals as goal

pub places-init : goal.places-init
places-init c r held place has page inside = inl (start_ahead c.args.own.now c.start-sweep.result c.start-sweep.ensures (own_place (place_of r)) has)

pub places-preserved : goal.places-preserved
places-preserved c r held place has page inside =
    let S : State = state_of_facts c.args.facts.now in
    elim (c.places.invariant r held place has page inside) [
      | inr pending ↦ inr (c.in_ok-push_place.ensures.kept r.id page pending)
      | inl later ↦ elim (c.in-Some.ensures.rest (own_place (place_of r)) later (place_meets r page place inside)) [
        | inr behind ↦ inl behind
        | inl one ↦
            let name : c.id.result ≡ r.id = c.id.ensures ∙ ap (λ (p : OwnPlace). p.id) one in
            inr (subst (λ (o : RecordId). IsPending c.push_place.new.stack.items o page) name (c.in_ok-push_place.ensures.stale r (ap S.record_at name ∙ held) page inside))
      ]
    ]
