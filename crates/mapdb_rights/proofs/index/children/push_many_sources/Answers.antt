use Rattle.std.proofs.Common.{◌≡◌, ◌+◌, ap, subst, ◌∙◌, inl, inr, length}
use Rattle.mapdb_facts.specs.Facts.{state_of_facts}
use Rattle.mapdb_facts.specs.Names.{same_id}
use Rattle.mapdb_facts.specs.State.{State}
use Rattle.mapdb_facts.specs.declared.names.RecordId.{RecordId}
use Rattle.mapdb_facts.proofs.Lists.SameNames.{same_id_itself}
use Rattle.mapdb_lists.specs.declared.own_place.OwnPlace.{OwnPlace}
use Rattle.mapdb_lists.specs.Listing.{own_place}
use Rattle.mapdb_lists.specs.OwnPlaces.{ahead, own_list}
use Rattle.mapdb_lists.proofs.PlaceLemmas.OwnSweeps.{start_ahead, start_length}
use Rattle.mapdb_rights.specs.HeldPlaces.{source_of}
use Rattle.mapdb_rights.specs.Pending.{IsPending, share, weight}
use Rattle.mapdb_rights.proofs.Places.Sweeps.{counted_first, counted_on, source_meets}
use Rattle.mapdb_rights.proofs.index.children.push_many_sources.Goals as goal

pub children-init : goal.children-init
children-init c = record {
  kept = λ id page pending. pending;
  stale = λ r held parent has page inside low high. inl (start_ahead c.args.own.now c.start-sweep.result c.start-sweep.ensures (own_place (source_of r)) has);
  counted = λ base some. counted_first (weight base c.args.stack.now.items) (share base (c.args.parent.number + 1)) (length (ahead c.args.own.now c.start-sweep.result)) (length (own_list c.args.own.now))
      (start_length c.args.own.now c.start-sweep.result c.start-sweep.ensures);
}

pub children-preserved : goal.children-preserved
children-preserved c =
    let S : State = state_of_facts c.args.facts.now in
    let next = c.in-Some.next in
    record {
      kept = λ id page pending. c.in_ok-push_held.ensures.kept id page (c.children.invariant.kept id page pending);
      stale = λ r held parent has page inside low high.
          elim (c.children.invariant.stale r held parent has page inside low high) [
            | inr pending ↦ inr (c.in_ok-push_held.ensures.kept r.id page pending)
            | inl later ↦ elim (c.in-Some.ensures.rest (own_place (source_of r)) later (source_meets r c.args.first c.args.end page inside low high)) [
              | inr behind ↦ inl behind
              | inl one ↦
                  let name : c.id.result ≡ r.id = c.id.ensures ∙ ap (λ (p : OwnPlace). p.id) one in
                  inr (subst (λ (o : RecordId). IsPending c.push_held.new.stack.items o page) name
                  (c.in_ok-push_held.ensures.stale r (ap S.record_at name ∙ held) (ap (λ (o : RecordId). same_id o c.args.parent) parent ∙ same_id_itself c.args.parent) page inside low high))
            ]
          ];
      counted = λ base some.
          counted_on (weight base c.children.stack.items) (weight base c.push_held.new.stack.items) (share base (c.args.parent.number + 1))
          (length (ahead c.args.own.now c.children.sweep)) (length (ahead c.args.own.now next.sweep)) (length (own_list c.args.own.now)) (weight base c.args.stack.now.items)
          (c.children.invariant.counted base some) (c.in_ok-push_held.ensures.weight base some) c.in-Some.ensures.fewer;
    }
