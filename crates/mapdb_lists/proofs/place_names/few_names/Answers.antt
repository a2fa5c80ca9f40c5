use Rattle.std.proofs.Common.{◌≡◌, List, [], ◌∷◌, ◌++◌, ◌∙◌, ap, inl, inr, subst, sym, true}
use Rattle.std.proofs.lemmas.Bool.{false≢true}
use Rattle.mapdb_facts.specs.declared.names.RecordId.{RecordId}
use Rattle.mapdb_lists.specs.OwnPlaces.{IsAlignedPlace, own_meets, stands}
use Rattle.mapdb_lists.specs.Standing.{is_named}
use Rattle.mapdb_lists.specs.declared.own_place.OwnPlace.{OwnPlace}
use Rattle.mapdb_lists.proofs.PlaceLemmas.LeastPlaces.{item_stands}
use Rattle.mapdb_lists.proofs.PlaceLemmas.PlaceNames.{named_before, named_front, named_last, next_stands}
use Rattle.mapdb_lists.proofs.place_names.few_names.Goals as goal
use Rattle.mapdb_lists.proofs.place_names.few_names.Goals.{else-meets, then-meets+in_ok-add_item}

pub meets-requires : goal.meets-requires
meets-requires c =
    subst IsAlignedPlace (sym c.place-item.is) (c.requires _ (item_stands c.args.places.now c.loop-place.place-index c.place-item.result c.loop-place-test.true))

pub loop-place-preserved : goal.loop-place-preserved
loop-place-preserved c =
    let places : List OwnPlace = c.args.places.now in
    let i = c.loop-place.place-index in
    let place : OwnPlace = c.place-item.result in
    let names : List RecordId = c.loop-place.names.items in
    elim c.if-meets.branch [
      | then-meets+in_ok-add_item w ↦
          let is : c.if-meets.names.items ≡ names ++ place.id ∷ [] = ap (λ n. n.items) w.names-is ∙ w.in_ok-add_item.ensures ∙ ap (λ (x : RecordId). names ++ x ∷ []) w.id.ensures in
          record {
            kept = λ id has. subst (λ (ns : List RecordId). is_named ns id ≡ true) (sym is) (named_front id names _ (c.loop-place.invariant.kept id has));
            named = λ p has meeting. elim (c.loop-place.invariant.named p has meeting) [
              | inl ahead ↦ elim (next_stands places i place p c.loop-place-test.true ahead) [
                | inl later ↦ inl later
                | inr here ↦ inr (subst (λ (ns : List RecordId). is_named ns p.id ≡ true) (sym is) (named_last p.id names place.id (ap (λ (x : OwnPlace). x.id) (c.place-item.is ∙ here))))
              ]
              | inr there ↦ inr (subst (λ (ns : List RecordId). is_named ns p.id ≡ true) (sym is) (named_front p.id names _ there))
            ];
            only = λ id has. elim (named_before id names place.id (subst (λ (ns : List RecordId). is_named ns id ≡ true) is has)) [
              | inl before ↦ c.loop-place.invariant.only id before
              | inr here ↦ inr (record { p = place; held = subst (λ (x : OwnPlace). stands places x ≡ true) (sym c.place-item.is) (item_stands places i place c.loop-place-test.true); meeting = sym c.meets.ensures ∙ w.if-meets.true; is = here })
            ];
          }
      | else-meets w ↦
          let is : c.if-meets.names.items ≡ names = ap (λ n. n.items) w.names-is in
          record {
            kept = λ id has. subst (λ (ns : List RecordId). is_named ns id ≡ true) (sym is) (c.loop-place.invariant.kept id has);
            named = λ p has meeting. elim (c.loop-place.invariant.named p has meeting) [
              | inl ahead ↦ elim (next_stands places i place p c.loop-place-test.true ahead) [
                | inl later ↦ inl later
                | inr here ↦ absurd (false≢true (sym (sym c.meets.ensures ∙ w.if-meets.false) ∙ ap (λ (x : OwnPlace). own_meets x c.args.first c.args.end) (c.place-item.is ∙ here) ∙ meeting))
              ]
              | inr there ↦ inr (subst (λ (ns : List RecordId). is_named ns p.id ≡ true) (sym is) there)
            ];
            only = λ id has. c.loop-place.invariant.only id (subst (λ (ns : List RecordId). is_named ns id ≡ true) is has);
          }
    ]
