use Rattle.std.proofs.Common.{ap, sym, subst, inl, inr, List, [], ◌∷◌, ◌++◌, ◌≡◌, ◌∙◌, true}
use Rattle.std.specs.List.Sorted.{IsStrictlySortedBy}
use Rattle.std.specs.BTreeMap.{is_at}
use Rattle.std.specs.Prelude.{Bool, ◌||◌, ◌⊎◌, filter}
use Rattle.std.specs.BTreeMap.Range.{range_contains}
use Rattle.std.specs.declared.ops.Bound.TheVariants.{Included, Unbounded}
use Rattle.std.proofs.lemmas.Bool.{and_parts, eqb-true, ltb-true, or_right}
use Rattle.mapdb_facts.specs.declared.names.RecordId.{RecordId}
use Rattle.mapdb_lists.specs.OwnPlaces.{place_cmp, stands}
use Rattle.mapdb_lists.specs.Standing.{is_named}
use Rattle.mapdb_lists.specs.declared.own_place.OwnPlace.{OwnPlace}
use Rattle.mapdb_lists.proofs.PlaceLemmas.LeastPlaces.{sorted_rest}
use Rattle.mapdb_lists.proofs.PlaceLemmas.PlaceNames.{first_up, held_from, named_before, named_front, named_last, or_later, passed, sorted_from, stands_from, up_from}
use Rattle.mapdb_lists.proofs.PlaceLemmas.PlaceOrder.{le_as, le_is, place_itself}
use Rattle.mapdb_lists.proofs.place_names.tree_names.Goals as goal

pub loop-place-init : goal.loop-place-init
loop-place-init c =
    let items : c.into_iter-place-iterator.result ≡ filter (range_contains place_cmp (Included c.args.from) Unbounded) c.args.tree.now.keys =
    c.into_iter-place-iterator.ensures.into_iter_gives ∙ c.range-place-items.ensures.between tt in
    record {
      next = tt;
      finite = tt;
      kept = λ id has. has;
      only = λ id has. inl has;
      held = λ p has. held_from c.args.tree.now.keys c.into_iter-place-iterator.result c.args.from items p has;
      sorted = sorted_from c.args.tree.now.keys c.into_iter-place-iterator.result c.args.from items c.range-place-items.ensures.ordered;
      up = λ p has. up_from c.args.tree.now.keys c.into_iter-place-iterator.result c.args.from items p has;
      named = λ p has up same begins. inl (stands_from c.args.tree.now.keys c.into_iter-place-iterator.result c.args.from items p has up);
    }

pub returns-then-not-is_of_order-clause-named : goal.returns-then-not-is_of_order-clause-named
returns-then-not-is_of_order-clause-named c p has from same begins =
    let place : OwnPlace = c.in-Some.place.now in
    let rest : List OwnPlace = c.next.new.self in
    let steps : c.loop-place.place-iterator ≡ place ∷ rest = c.in-Some.ensures.steps in
    elim (c.loop-place.invariant.named p has (le_is _ from) same begins) [
      | inl ahead ↦
          absurd (passed c.args.from place p c.args.end
          (c.loop-place.invariant.up place (ap (λ (xs : List OwnPlace). stands xs place) steps ∙ ap (λ (b : Bool). b || stands rest place) (place_itself place)))
          (first_up place p rest (subst (λ (xs : List OwnPlace). IsStrictlySortedBy place_cmp xs) steps c.loop-place.invariant.sorted) (ap (λ (xs : List OwnPlace). stands xs p) (sym steps) ∙ ahead))
          (sym c.is_of_order.ensures ∙ c.if-not-is_of_order.true) same begins)
      | inr there ↦ there
    ]

pub loop-place-preserved : goal.loop-place-preserved
loop-place-preserved c =
    let place : OwnPlace = c.in-Some.place.now in
    let rest : List OwnPlace = c.next.new.self in
    let steps : c.loop-place.place-iterator ≡ place ∷ rest = c.in-Some.ensures.steps in
    let old : List RecordId = c.loop-place.names.items in
    let more = c.in_ok-add_item.ensures ∙ ap (λ (x : RecordId). old ++ x ∷ []) c.id.ensures in
    record {
      next = tt;
      finite = tt;
      kept = λ id has. subst (λ (names : List RecordId). is_named names id ≡ true) (sym more) (named_front id c.loop-place.names.items _ (c.loop-place.invariant.kept id has));
      only = λ id has. elim (named_before id c.loop-place.names.items place.id (subst (λ (names : List RecordId). is_named names id ≡ true) more has)) [
        | inl before ↦ c.loop-place.invariant.only id before
        | inr here ↦
            let first : stands c.loop-place.place-iterator place ≡ true = ap (λ (xs : List OwnPlace). stands xs place) steps ∙ ap (λ (b : Bool). b || stands rest place) (place_itself place) in
            let test = and_parts _ _ (sym c.is_of_order.ensures ∙ c.if-not-is_of_order.false) in
            inr (record {
              p = place;
              held = c.loop-place.invariant.held place first;
              inside = le_as _ (c.loop-place.invariant.up place first);
              order = eqb-true _ _ test.0;
              begins = ltb-true _ _ test.1;
              is = here;
            })
      ];
      held = λ p has. c.loop-place.invariant.held p (ap (λ (xs : List OwnPlace). stands xs p) steps ∙ or_right (is_at (place_cmp p) place) (stands rest p) has);
      sorted = (sorted_rest place rest (subst (λ (xs : List OwnPlace). IsStrictlySortedBy place_cmp xs) steps c.loop-place.invariant.sorted)).1;
      up = λ p has. c.loop-place.invariant.up p (ap (λ (xs : List OwnPlace). stands xs p) steps ∙ or_right (is_at (place_cmp p) place) (stands rest p) has);
      named = λ p has up same begins.
          subst (λ (names : List RecordId). (stands rest p ≡ true) ⊎ (is_named names p.id ≡ true)) (sym more)
          (elim (c.loop-place.invariant.named p has up same begins) [
            | inl ahead ↦ elim (or_later p place rest (ap (λ (xs : List OwnPlace). stands xs p) (sym steps) ∙ ahead)) [
              | inl later ↦ inl later
              | inr here ↦ inr (named_last p.id c.loop-place.names.items place.id (ap (λ (x : OwnPlace). x.id) (sym here)))
            ]
            | inr there ↦ inr (named_front p.id c.loop-place.names.items _ there)
          ]);
    }
