-- What is seen after pages were to get a change.
use Rattle.std.proofs.Common.{◌≡◌, ℕ, ◌<◌, ◌≤◌, Bool, true, false, refl, sym, ap, subst, ◌∙◌, arith, inl, inr}
use Rattle.std.specs.Prelude.{Option, Some, None, if◌then◌else◌}
use Rattle.std.proofs.lemmas.Bool.{cases_Bool, cond-false, cond-true, lt-ltb}
use Rattle.std.proofs.lemmas.Bool.Decides.{nat_tests}
use Rattle.mapdb_fpage.specs.Bounds.{page_limit}
use Rattle.mapdb_fpage.specs.Place.{is_page}
use Rattle.mapdb_fpage.specs.RightSets.{is_empty}
use Rattle.mapdb_facts.specs.Exact.{exact_id}
use Rattle.mapdb_facts.specs.Names.{same_id}
use Rattle.mapdb_facts.specs.declared.names.RecordId.{RecordId}
use Rattle.mapdb_lists.specs.declared.changes.Change.{Change}
use Rattle.mapdb_lists.specs.declared.changes.Replaced.{Replaced}
use Rattle.mapdb_lists.specs.declared.changes.Stretch.{Stretch}
use Rattle.mapdb_lists.specs.Changes.{covers, IsStretch, PageChanges, at_first, cached_in, change_at, changed, past_the_end, seen_in}
use Rattle.mapdb_lists.specs.OwnChanges.{IsNoneUntil}
use Rattle.mapdb_lists.specs.Replacing.{HasNoRights, HasRights, IsOutcome, IsReplacedIn, IsReplacedOf, IsSeenReplaced}
use Rattle.mapdb_lists.proofs.ChangeLemmas.LastChanges.{changed-same, changed-stays}
use Rattle.mapdb_lists.proofs.ChangeLemmas.Writing.{IsWritten, given_everywhere, seen_alike, seen_stays}
use Rattle.mapdb_lists.proofs.PlaceLemmas.Meetings.{either_way}

-- over a stretch one change is left
pub stretch_left : (at : ℕ → Option Change) (before : Change) (page : ℕ) (stretch : Stretch) → IsStretch at before page stretch
    → (q : ℕ) → page ≤ q → q < stretch.end → changed at before q ≡ stretch.change
stretch_left at before page stretch h q from up_to =
    changed-stays at before page q from (λ p after until. h.none p after (omega arith)) ∙ sym h.seen

-- what the changes of a record leave is seen of it
module _ (old : PageChanges) (id : RecordId) where
  pub seen_left : (page : ℕ) → page < page_limit → seen_in old id page ≡ changed (change_at old id) (at_first id) page
  seen_left page inside = cond-true (is_page page) (changed (change_at old id) (at_first id) page) past_the_end (lt-ltb page page_limit inside)

  pub some_seen : HasRights (change_at old id) (at_first id) → (page : ℕ) × (is_empty (cached_in old id page) ≡ false)
  some_seen (page, inside, some) = (page, ap (λ (c : Change). is_empty c.rights) (seen_left page inside) ∙ some)

  pub none_seen : HasNoRights (change_at old id) (at_first id) → (page : ℕ) → is_empty (cached_in old id page) ≡ true
  none_seen none page = elim (either_way page_limit page) [
    | inr before ↦
        let inside : page < page_limit = omega (arith, before) in
        ap (λ (c : Change). is_empty c.rights) (seen_left page inside) ∙ none page inside
    | inl out ↦ ap (λ (c : Change). is_empty c.rights)
        (cond-false (is_page page) (changed (change_at old id) (at_first id) page) past_the_end (grind (arith, nat_tests)))
  ]

module _ (old new : PageChanges) (id : RecordId) (first end : ℕ) (change : Change)
    (others : (other : RecordId) (page : ℕ) → same_id id other ≡ false → change_at new other page ≡ change_at old other page)
    (above : first < end) (limit : end ≤ page_limit) (one : IsNoneUntil (change_at old id) first end) where
  rights_of_either : (b : Bool) (x y : Change) → (if b then x else y).rights ≡ (if b then x.rights else y.rights)
  rights_of_either true x y = refl
  rights_of_either false x y = refl

  all_stay : ((page : ℕ) → change_at new id page ≡ change_at old id page) → (other : RecordId) (page : ℕ) → change_at new other page ≡ change_at old other page
  all_stay same other page = elim (cases_Bool (same_id id other)) [
    | inl is ↦ subst (λ (o : RecordId). change_at new o page ≡ change_at old o page) (exact_id id other is) (same page)
    | inr apart ↦ others other page apart
  ]

  seen_how : (had_some : Option Bool) → IsOutcome (change_at old id) (at_first id) first end change (change_at new id) had_some
      → IsSeenReplaced old id first end change new had_some
  seen_how None kept = record {
    rights = λ page from before.
        ap (λ (c : Change). c.rights) (seen_stays old id first page from (omega (arith, limit, before)) (λ q after up_to. one q after (omega (arith, before))) ∙ seen_left old id first (omega (arith, above, limit)))
        ∙ kept.rights;
    same = λ other page. seen_alike old new other page (λ _. changed-same (change_at new other) (change_at old other) (at_first other) page (λ q _. all_stay kept.same other q));
  }
  seen_how (Some had_some) got =
      let written : IsWritten old id first end (changed (change_at old id) (at_first id) first) change new = record { own = got.given; others = others } in
      let seen = given_everywhere old new id first end (changed (change_at old id) (at_first id) first) change written above limit one (sym (seen_left old id first (omega (arith, above, limit)))) in
      record {
        other = λ is. got.other (ap (λ (c : Change). c.rights) (sym (seen_left old id first (omega (arith, above, limit)))) ∙ is);
        seen = seen;
        cached = λ other page. ap (λ (c : Change). c.rights) (seen other page) ∙ rights_of_either (covers id first end other page) change (seen_in old other page);
        some = λ had. some_seen old id (got.some had);
        none = λ had. none_seen old id (got.none had);
      }

-- what is seen where pages of one record were to get a change
pub replaced_seen : (old new : PageChanges) (id : RecordId) (first limit : ℕ) (change : Change) (replaced : Replaced) → limit ≤ page_limit
    → IsReplacedOf old id first limit change new replaced → IsReplacedIn old id first limit change new replaced
replaced_seen old new id first limit change replaced below of = record {
  above = of.own.above;
  within = of.own.within;
  how = seen_how old new id first replaced.end change of.others of.own.above (let w : replaced.end ≤ limit = of.own.within in omega (arith, w, below)) of.own.one replaced.had_some of.own.how;
}
