use Rattle.std.proofs.Common.{[], ◌++◌, ◌≡◌, ◌∙◌, ◌∷◌, List, ap, inl, inr, subst, sym, true}
use Rattle.std.proofs.lemmas.Bool.{false≢true, true≢false}
use Rattle.mapdb_lists.specs.OwnPlaces.{own_list, stands}
use Rattle.mapdb_lists.specs.declared.own_place.OwnPlace.{OwnPlace}
use Rattle.mapdb_lists.proofs.PlaceLemmas.OwnSweeps.{start_ahead}
use Rattle.mapdb_rights.proofs.Places.PlaceWalks.{meets_all, pushed, pushed_new, pushed_old}
use Rattle.mapdb_fpage.proofs.Booleans.{same_test}
use Rattle.mapdb_rights.proofs.index.ordered_places.gathered.Goals as goal

pub places-init : goal.places-init
places-init c = record {
  known = λ p has. absurd (false≢true (ap (λ (l : List OwnPlace). stands l p) (sym c.new-places.ensures.items) ∙ has));
  all = λ p has. inl (start_ahead c.args.own.now c.start-sweep.result c.start-sweep.ensures p has);
}

pub places-preserved : goal.places-preserved
places-preserved c =
    let old = c.places.places.items in
    let x = c.in-Some.next.place in
    let more = c.in_ok-push.ensures.items in
    record {
      known = λ p has. elim (pushed old x p (ap (λ (l : List OwnPlace). stands l p) (sym more) ∙ has)) [
        | inl same ↦ subst (λ (q : OwnPlace). stands (own_list c.args.own.now) q ≡ true) same c.in-Some.ensures.held
        | inr there ↦ c.places.invariant.known p there
      ];
      all = λ p has. elim (c.places.invariant.all p has) [
        | inr there ↦ inr (ap (λ (l : List OwnPlace). stands l p) more ∙ pushed_old old x p there)
        | inl later ↦ elim (c.in-Some.ensures.rest p later (meets_all (own_list c.args.own.now) c.requires p has)) [
          | inr behind ↦ inl behind
          | inl same ↦ inr (ap (λ (l : List OwnPlace). stands l p) more ∙ subst (λ (q : OwnPlace). stands (old ++ x ∷ []) q ≡ true) same (pushed_new old x))
        ]
      ];
    }

pub returns : goal.returns
returns c p =
    same_test (stands c.places.places.items p) (stands (own_list c.args.own.now) p) (c.places.invariant.known p) (λ has. elim (c.places.invariant.all p has) [
      | inl later ↦ absurd (true≢false (sym (meets_all (own_list c.args.own.now) c.requires p has) ∙ c.in_default.ensures p later))
      | inr there ↦ there
    ])
