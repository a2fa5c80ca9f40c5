use Rattle.std.proofs.lemmas.Bool.{true≢false}
use Rattle.mapdb_lists.proofs.PlaceLemmas.Meetings.{none_met}
use Rattle.std.proofs.Common.{arith, ap, sym, subst, inl, inr, rules, ◌+◌, ◌∙◌, ℕ}
use Rattle.std.specs.Prelude.{Option}
use Rattle.std.specs.Ordering.{is_gt}
use Rattle.mapdb_lists.specs.OwnPlaces.{place_cmp}
use Rattle.mapdb_lists.specs.declared.own_place.OwnPlace.{OwnPlace}
use Rattle.mapdb_lists.proofs.PlaceLemmas.PlaceNames.{IsAhead, ahead_on, from_start_of, meets_from, or_above}
use Rattle.mapdb_lists.proofs.PlaceLemmas.PlaceOrder.{le_as, le_is}
use Rattle.mapdb_lists.proofs.many_places.ManyPlaces.add_names.Goals as goal

pub returns-then-first-min-clause-named : goal.returns-then-first-min-clause-named
returns-then-first-min-clause-named c p has meeting =
    absurd (true≢false (sym meeting ∙ none_met p c.args.first c.args.end (c.requires p has) (omega (arith, c.if-first-min.true, c.min.ensures))))

pub orders-preserved : goal.orders-preserved
orders-preserved c = record {
  kept = λ id has. c.in_ok-add_names.ensures.kept id (c.orders.invariant.kept id has);
  only = λ id has. elim (c.in_ok-add_names.ensures.only id has) [
    | inl before ↦ c.orders.invariant.only id before
    | inr from ↦ inr (record {
      p = from.p;
      held = from.held;
      meeting = meets_from c.in-Some.order c.args.first c.args.end from.p (omega arith)
          (ap (λ (s : OwnPlace). is_gt (place_cmp s from.p)) (sym c.start_of.ensures) ∙ le_is _ from.inside)
          (from.order ∙ ap (λ (s : OwnPlace). s.order) c.start_of.ensures) from.begins;
      is = from.is;
    })
  ];
  least = search rules;
  named = λ p has meeting.
      elim (c.orders.invariant.named p has meeting) [
        | inl ahead ↦ elim (or_above c.in-Some.order p.order (subst (λ (reached : Option ℕ). IsAhead reached p.order) c.in-Some.is ahead)) [
          | inl same ↦
              let from = from_start_of c.in-Some.order c.args.first c.args.end p (c.requires p has) (sym same) meeting in
              inr (c.in_ok-add_names.ensures.named p has
              (le_as (place_cmp c.start_of.result p) (ap (λ (s : OwnPlace). is_gt (place_cmp s p)) c.start_of.ensures ∙ from.0))
              (same ∙ sym (ap (λ (s : OwnPlace). s.order) c.start_of.ensures)) from.1)
          | inr above ↦ inl (ahead_on c.args.self.now.places c.args.self.now.orders c.requires c.args.self.now.ordered (c.in-Some.order + 1) c.next_from-reached-in-Some.result
              c.next_from-reached-in-Some.ensures p has above)
        ]
        | inr there ↦ inr (c.in_ok-add_names.ensures.kept p.id there)
      ];
}
