use Rattle.std.proofs.Common.{ap, sym, subst, inl, inr, arith, List, [], ◌∷◌, ◌++◌, false, ◌+◌, ◌≤◌, ◌≡◌, ◌∙◌, true}
use Rattle.std.specs.Prelude.{◌⊎◌, ◌&&◌, nat_eq, nat_lt}
use Rattle.std.specs.Ordering.{is_gt}
use Rattle.mapdb_lists.specs.OwnPlaces.{place_cmp, stands}
use Rattle.mapdb_facts.specs.declared.names.RecordId.{RecordId}
use Rattle.mapdb_lists.specs.Standing.{is_named}
use Rattle.mapdb_lists.specs.declared.own_place.OwnPlace.{OwnPlace}
use Rattle.mapdb_lists.proofs.PlaceLemmas.PlaceLists.{index_of}
use Rattle.mapdb_lists.proofs.PlaceLemmas.PlaceNames.{all_from, is_from, named_before, named_front, named_last, none_behind, or_next}
use Rattle.mapdb_lists.proofs.PlaceLemmas.PlaceOrder.{le_as, le_is}
use Rattle.mapdb_lists.proofs.PlaceLemmas.LeastPlaces.{item_stands}
use Rattle.std.proofs.lemmas.Bool.{and_parts, eqb-true, ltb-true}
use Rattle.mapdb_lists.proofs.place_names.list_names.Goals as goal

pub places-init : goal.places-init
places-init c = record {
  kept = λ id has. has;
  only = λ id has. inl has;
  named = λ j p at up same begins. inl (is_from c.args.list.now c.requires c.args.from c.index_for-at.result j p c.index_for-at.ensures.parted at up);
  behind = λ j d later inside. all_from c.args.list.now c.requires c.args.from c.index_for-at.result j d c.index_for-at.ensures.parted later inside;
}

pub returns-then-not-is_of_order-clause-named : goal.returns-then-not-is_of_order-clause-named
returns-then-not-is_of_order-clause-named c p has from same begins =
    let at = index_of c.args.list.now p has in
    let place : OwnPlace = c.index-list-at.result in
    let test : (nat_eq place.order c.args.from.order && nat_lt place.first c.args.end) ≡ false = sym c.is_of_order.ensures ∙ c.if-not-is_of_order.true in
    elim (c.places.invariant.named at.index p (at.inside, at.here) (le_is _ from) same begins) [
      | inl later ↦
          absurd (none_behind c.args.list.now c.requires c.args.from c.places.at at.index place p c.args.end c.places-test.true
          (c.places.invariant.behind c.places.at place (omega arith) c.places-test.true)
          (subst (λ (x : OwnPlace). (nat_eq x.order c.args.from.order && nat_lt x.first c.args.end) ≡ false) c.index-list-at.is test) (at.inside, at.here) same begins later)
      | inr there ↦ there
    ]

pub places-preserved : goal.places-preserved
places-preserved c =
    let place : OwnPlace = c.index-list-at.result in
    let is = c.index-list-at.is in
    let old : List RecordId = c.places.names.items in
    let more = c.in_ok-add_item.ensures ∙ ap (λ (x : RecordId). old ++ x ∷ []) c.id.ensures in
    record {
      kept = λ id has. subst (λ (names : List RecordId). is_named names id ≡ true) (sym more) (named_front id old _ (c.places.invariant.kept id has));
      named = λ j p at up same begins.
          subst (λ (names : List RecordId). (c.places.at + 1 ≤ j) ⊎ (is_named names p.id ≡ true)) (sym more)
          (elim (c.places.invariant.named j p at up same begins) [
            | inl later ↦ elim (or_next c.args.list.now c.places.at j place p at later) [
              | inl further ↦ inl further
              | inr here ↦ inr (named_last p.id old place.id (ap (λ (x : OwnPlace). x.id) (is ∙ here)))
            ]
            | inr there ↦ inr (named_front p.id old _ there)
          ]);
      only = λ id has. elim (named_before id old place.id (subst (λ (names : List RecordId). is_named names id ≡ true) more has)) [
        | inl before ↦ c.places.invariant.only id before
        | inr here ↦
            let test = and_parts _ _ (sym c.is_of_order.ensures ∙ c.if-not-is_of_order.false) in
            inr (record {
              p = place;
              held = subst (λ (x : OwnPlace). stands c.args.list.now x ≡ true) (sym is) (item_stands c.args.list.now c.places.at place c.places-test.true);
              inside = le_as _ (subst (λ (x : OwnPlace). is_gt (place_cmp c.args.from x) ≡ false) (sym is) (c.places.invariant.behind c.places.at place (omega arith) c.places-test.true));
              order = eqb-true _ _ test.0;
              begins = ltb-true _ _ test.1;
              is = here;
            })
      ];
      behind = λ j d later inside. c.places.invariant.behind j d (omega (arith, later)) inside;
    }

pub returns-clause-named : goal.returns-clause-named
returns-clause-named c p has from same begins =
    let at = index_of c.args.list.now p has in
    elim (c.places.invariant.named at.index p (at.inside, at.here) (le_is _ from) same begins) [
      | inl later ↦ let no : ⊥ = omega (arith, later, at.inside, c.places-test.false) in absurd no
      | inr there ↦ there
    ]
