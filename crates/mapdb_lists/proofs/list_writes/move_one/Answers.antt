use Rattle.std.proofs.Common.{◌≡◌, ◌↔◌, ◌<◌, ℕ, Bool, false, true, List, length, subst, sym, ap, ◌∙◌}
use Rattle.std.specs.Prelude.{IfErr, IfOk, IsTrue, slice_set}
use Rattle.std.specs.List.{insert, refill, remove}
use Rattle.std.proofs.lemmas.List.{length-set}
use Rattle.mapdb_lists.specs.Changes.{MovesBack, MovesOn, IsRewritten}
use Rattle.mapdb_lists.specs.FewChanges.{listed_rights}
use Rattle.mapdb_lists.specs.OwnChanges.{IsNoneUntil}
use Rattle.mapdb_lists.specs.PageOrder.{IsGap, PagesRise, StandsAtPage}
use Rattle.mapdb_fpage.specs.declared.right_sets.Rights.{Rights}
use Rattle.mapdb_lists.specs.declared.few_changes.PageRights.{PageRights}
use Rattle.mapdb_lists.proofs.ChangeLemmas.FewChanges.{refilled}
use Rattle.mapdb_lists.proofs.ChangeLemmas.MovedChanges.{exchanged, moved_back, moved_back_rises, moved_on, moved_on_rises, one_back, one_on}
use Rattle.mapdb_lists.proofs.list_writes.move_one.Goals as goal
use Rattle.mapdb_lists.proofs.list_writes.move_one.Goals.{in-Ok, in-Err}

-- what was answered is this
answered : {A B : Type 0} (b c : Bool) → b ≡ c → IsTrue b ↔ A → A ↔ B → IsTrue c ↔ B
answered {B = B} b c same one other = subst (λ (d : Bool). IsTrue d ↔ B) same ((λ is. other.0 (one.0 is)), (λ is. one.1 (other.1 is)))

-- the list has one change in place of one that was taken out
exchange : (xs now new : List PageRights) (place : ℕ × PageRights) (at : ℕ) (next : PageRights) → now ≡ xs → place ≡ (at, next)
    → new ≡ slice_set now place.0 place.1 → at < length xs → refill (length xs) xs new ≡ insert (remove xs at) at next
exchange xs now new place at next same here set inside =
    let is : new ≡ slice_set xs at next = set ∙ ap (λ (l : List PageRights). slice_set l place.0 place.1) same ∙ ap (λ (p : ℕ × PageRights). slice_set xs p.0 p.1) here in
    refilled xs new (ap (λ (l : List PageRights). length l) is ∙ length-set xs at next) ∙ is ∙ exchanged xs at next inside

module _ (xs ys : List PageRights) (same : ys ≡ xs) (first end at : ℕ) (some : first < end) (one : IsNoneUntil (listed_rights xs) first end) (before rights : Rights) (is : Bool) where
  on_there : StandsAtPage xs first at
      → (StandsAtPage ys first at → first < end → IsNoneUntil (listed_rights ys) first end → IsTrue is ↔ MovesOn (listed_rights ys) before first end rights)
      → IsTrue is ↔ MovesOn (listed_rights xs) before first end rights
  on_there there when =
      subst (λ (l : List PageRights). StandsAtPage l first at → first < end → IsNoneUntil (listed_rights l) first end → IsTrue is ↔ MovesOn (listed_rights l) before first end rights)
      same when there some one

  back_there : IsGap xs first at
      → (IsGap ys first at → first < end → IsNoneUntil (listed_rights ys) first end → IsTrue is ↔ MovesBack (listed_rights ys) before first end rights)
      → IsTrue is ↔ MovesBack (listed_rights xs) before first end rights
  back_there gap when =
      subst (λ (l : List PageRights). IsGap l first at → first < end → IsNoneUntil (listed_rights l) first end → IsTrue is ↔ MovesBack (listed_rights l) before first end rights)
      same when gap some one

pub returns-in_default-clause-when : goal.returns-in_default-clause-when
returns-in_default-clause-when c =
    let xs = c.args.list.now.items in
    let there = subst (λ f. IfOk f (StandsAtPage xs c.args.first)) c.in-Ok.is c.requires.there in
    let on = on_there xs c.as_slice-changes.result.now c.as_slice-changes.ensures c.args.first c.args.end c.in-Ok.index c.requires.some c.requires.one c.args.before c.args.rights c.moves_on.result there (c.moves_on.ensures c.args.first) in
    answered c.moves_on.result false c.if-moves_on.false on (one_on xs c.requires.rise c.args.first c.args.end c.in-Ok.index c.requires.some c.args.before c.args.rights c.if-end-ge-PAGE_LIMIT.false there)

pub returns-in_default-2-clause-when : goal.returns-in_default-2-clause-when
returns-in_default-2-clause-when c =
    let xs = c.args.list.now.items in
    let gap = subst (λ f. IfErr f (IsGap xs c.args.first)) c.in-Err.is c.requires.gap in
    let back = back_there xs c.as_slice-changes.result.now c.as_slice-changes.ensures c.args.first c.args.end c.in-Err.index c.requires.some c.requires.one c.args.before c.args.rights c.moves_back.result gap (c.moves_back.ensures.back c.args.first) in
    answered c.moves_back.result false c.if-moves_back.false back (one_back xs c.requires.rise c.args.first c.args.end c.in-Err.index c.requires.some c.args.before c.args.rights c.if-end-ge-PAGE_LIMIT.false gap)

pub returns-clause-when : goal.returns-clause-when
returns-clause-when c =
    let xs = c.args.list.now.items in
    elim c.match-found.branch [
      | in-Ok w ↦
          let there = subst (λ f. IfOk f (StandsAtPage xs c.args.first)) w.in-Ok.is c.requires.there in
          let on = on_there xs c.as_slice-changes.result.now c.as_slice-changes.ensures c.args.first c.args.end w.in-Ok.index c.requires.some c.requires.one c.args.before c.args.rights w.moves_on.result there (w.moves_on.ensures c.args.first) in
          answered w.moves_on.result true w.if-moves_on.true on (one_on xs c.requires.rise c.args.first c.args.end w.in-Ok.index c.requires.some c.args.before c.args.rights c.if-end-ge-PAGE_LIMIT.false there)
      | in-Err w ↦
          let gap = subst (λ f. IfErr f (IsGap xs c.args.first)) w.in-Err.is c.requires.gap in
          let back = back_there xs c.as_slice-changes.result.now c.as_slice-changes.ensures c.args.first c.args.end w.in-Err.index c.requires.some c.requires.one c.args.before c.args.rights w.moves_back.result gap (w.moves_back.ensures.back c.args.first) in
          answered w.moves_back.result true w.if-moves_back.true back (one_back xs c.requires.rise c.args.first c.args.end w.in-Err.index c.requires.some c.args.before c.args.rights c.if-end-ge-PAGE_LIMIT.false gap)
    ]

pub returns-clause-rise : goal.returns-clause-rise
returns-clause-rise c =
    let xs = c.args.list.now.items in
    elim c.match-found.branch [
      | in-Ok w ↦
          let there = subst (λ f. IfOk f (StandsAtPage xs c.args.first)) w.in-Ok.is c.requires.there in
          let on = on_there xs c.as_slice-changes.result.now c.as_slice-changes.ensures c.args.first c.args.end w.in-Ok.index c.requires.some c.requires.one c.args.before c.args.rights w.moves_on.result there (w.moves_on.ensures c.args.first) in
          subst (λ (l : List PageRights). PagesRise l) (sym (exchange xs c.as_mut_slice.result.now c.set_at.new.list c.match-found.index w.in-Ok.index (record { page = c.args.end; rights = c.args.was }) c.as_mut_slice.ensures.value
          (w.index-is ∙ ap (λ (n : PageRights). (w.in-Ok.index, n)) w.new-next.ensures) c.set_at.ensures there.inside))
          (moved_on_rises xs c.requires.rise c.args.first c.args.end w.in-Ok.index c.requires.some there c.requires.one (on.0 w.if-moves_on.true).none c.args.was)
      | in-Err w ↦
          let gap = subst (λ f. IfErr f (IsGap xs c.args.first)) w.in-Err.is c.requires.gap in
          let there = subst (λ (l : List PageRights). StandsAtPage l c.args.end w.in-Err.index) c.as_slice-changes.ensures (w.moves_back.ensures.there w.if-moves_back.true) in
          subst (λ (l : List PageRights). PagesRise l) (sym (exchange xs c.as_mut_slice.result.now c.set_at.new.list c.match-found.index w.in-Err.index (record { page = c.args.first; rights = c.args.rights }) c.as_mut_slice.ensures.value
          (w.index-is ∙ ap (λ (n : PageRights). (w.in-Err.index, n)) w.new-next-in-Err.ensures) c.set_at.ensures there.inside))
          (moved_back_rises xs c.requires.rise c.args.first c.args.end w.in-Err.index c.requires.some gap there c.args.rights)
    ]

pub returns-clause-moved : goal.returns-clause-moved
returns-clause-moved c done =
    let xs = c.args.list.now.items in
    elim c.match-found.branch [
      | in-Ok w ↦
          let there = subst (λ f. IfOk f (StandsAtPage xs c.args.first)) w.in-Ok.is c.requires.there in
          let on = on_there xs c.as_slice-changes.result.now c.as_slice-changes.ensures c.args.first c.args.end w.in-Ok.index c.requires.some c.requires.one c.args.before c.args.rights w.moves_on.result there (w.moves_on.ensures c.args.first) in
          subst (λ (l : List PageRights). IsRewritten (listed_rights xs) c.args.before c.args.first c.args.end c.args.was c.args.rights (listed_rights l))
          (sym (exchange xs c.as_mut_slice.result.now c.set_at.new.list c.match-found.index w.in-Ok.index (record { page = c.args.end; rights = c.args.was }) c.as_mut_slice.ensures.value
          (w.index-is ∙ ap (λ (n : PageRights). (w.in-Ok.index, n)) w.new-next.ensures) c.set_at.ensures there.inside))
          (moved_on xs c.requires.rise c.args.first c.args.end w.in-Ok.index c.requires.some there c.requires.one (on.0 w.if-moves_on.true).none
          c.args.before c.args.was c.args.rights (on.0 w.if-moves_on.true).left)
      | in-Err w ↦
          let gap = subst (λ f. IfErr f (IsGap xs c.args.first)) w.in-Err.is c.requires.gap in
          let back = back_there xs c.as_slice-changes.result.now c.as_slice-changes.ensures c.args.first c.args.end w.in-Err.index c.requires.some c.requires.one c.args.before c.args.rights w.moves_back.result gap (w.moves_back.ensures.back c.args.first) in
          let there = subst (λ (l : List PageRights). StandsAtPage l c.args.end w.in-Err.index) c.as_slice-changes.ensures (w.moves_back.ensures.there w.if-moves_back.true) in
          subst (λ (l : List PageRights). IsRewritten (listed_rights xs) c.args.before c.args.first c.args.end c.args.was c.args.rights (listed_rights l))
          (sym (exchange xs c.as_mut_slice.result.now c.set_at.new.list c.match-found.index w.in-Err.index (record { page = c.args.first; rights = c.args.rights }) c.as_mut_slice.ensures.value
          (w.index-is ∙ ap (λ (n : PageRights). (w.in-Err.index, n)) w.new-next-in-Err.ensures) c.set_at.ensures there.inside))
          (moved_back xs c.requires.rise c.args.first c.args.end w.in-Err.index c.requires.some gap there c.args.before c.args.was c.args.rights (back.0 w.if-moves_back.true).same)
    ]
