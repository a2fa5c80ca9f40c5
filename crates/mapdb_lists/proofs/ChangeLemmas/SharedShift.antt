-- What rights in a list say of the changes that they show by one shift.
use Rattle.std.proofs.Common.{◌≡◌, ℕ, zero, suc, ◌<◌, ◌≤◌, refl, ap, sym, subst, ◌∙◌, List}
use Rattle.std.specs.Prelude.{Option, None, Some}
use Rattle.std.specs.Option.{unwrap_or}
use Rattle.mapdb_fpage.specs.Bounds.{page_limit}
use Rattle.mapdb_fpage.specs.declared.right_sets.Rights.{Rights}
use Rattle.mapdb_lists.specs.declared.changes.Change.{Change}
use Rattle.mapdb_lists.specs.declared.few_changes.PageRights.{PageRights}
use Rattle.mapdb_lists.specs.Changes.{IsRewritten, IsStretch, changed, left_before}
use Rattle.mapdb_lists.specs.FewChanges.{ShowsChange, ListedChanges, few_change, listed_rights, shown, with_shift}
use Rattle.mapdb_lists.specs.OwnChanges.{IsLastChange, IsLastUpTo, IsNoneUntil}
use Rattle.mapdb_lists.proofs.ChangeLemmas.LastChanges.{last_left, stretch_first}

-- what is there, or else what stands where nothing is
shown_or : (shift : ℕ) (o : Option Rights) (other : Rights) → unwrap_or (shown shift o) (with_shift shift other) ≡ with_shift shift (unwrap_or o other)
shown_or shift None other = refl
shown_or shift (Some rights) other = refl

module _ (few : ListedChanges) where
  shown_until : (page end : ℕ) → IsNoneUntil (listed_rights few.list) page end → IsNoneUntil (few_change few) page end
  shown_until page end none q above below = ap (shown few.shift) (none q above below)

  shown_last : (page at : ℕ) (rights : Rights) → IsLastChange (listed_rights few.list) page (at, rights)
      → IsLastChange (few_change few) page (at, with_shift few.shift rights)
  shown_last page at rights last = record {
    up_to = last.up_to;
    here = ap (shown few.shift) last.here;
    last = λ q above up_to. ap (shown few.shift) (last.last q above up_to);
  }

  shown_nowhere : (page : ℕ) → IsLastUpTo (listed_rights few.list) page None → IsLastUpTo (few_change few) page None
  shown_nowhere page none q up_to = ap (shown few.shift) (none q up_to)

  shown_changed : (first : Rights) (page : ℕ) → changed (few_change few) (with_shift few.shift first) page ≡ with_shift few.shift (changed (listed_rights few.list) first page)
  unfolding changed
  shown_changed first zero = shown_or few.shift (listed_rights few.list zero) first
  shown_changed first (suc page) =
      ap (unwrap_or (few_change few (suc page))) (shown_changed first page)
      ∙ shown_or few.shift (listed_rights few.list (suc page)) (changed (listed_rights few.list) first page)

  shown_left : (before : Rights) (page : ℕ) → left_before (few_change few) (with_shift few.shift before) page ≡ with_shift few.shift (left_before (listed_rights few.list) before page)
  shown_left before zero = refl
  shown_left before (suc page) = shown_changed before page

  -- what stands at a page is shown where what stands before any change is
  pub shown_standing : (before was : Change) (page : ℕ) → ShowsChange few.shift before → was ≡ changed (few_change few) before page → ShowsChange few.shift was
  shown_standing before was page is_before is_was =
      let stands : was ≡ with_shift few.shift (changed (listed_rights few.list) before.rights page) =
      is_was ∙ ap (λ (b : Change). changed (few_change few) b page) is_before ∙ shown_changed before.rights page in
      stands ∙ ap (with_shift few.shift) (sym (ap (λ (c : Change). c.rights) stands))

  pub shown_stretch : (first : Change) (page end at : ℕ) (rights : Rights) (change : Change) → change ≡ with_shift few.shift rights
      → IsLastChange (listed_rights few.list) page (at, rights) → page < end → end ≤ page_limit → IsNoneUntil (listed_rights few.list) page end
      → IsStretch (few_change few) first page (record { change = change; end = end })
  shown_stretch first page end at rights change is last above limit none = record {
    seen = is ∙ sym (last_left (few_change few) first page (at, with_shift few.shift rights) (shown_last page at rights last));
    above = above;
    limit = limit;
    none = shown_until page end none;
  }

  pub first_stretch : (first : Change) (page end : ℕ) → IsLastUpTo (listed_rights few.list) page None → page < end → end ≤ page_limit
      → IsNoneUntil (listed_rights few.list) page end → IsStretch (few_change few) first page (record { change = first; end = end })
  first_stretch first page end last above limit none =
      stretch_first (few_change few) first page end (shown_nowhere page last) above limit (shown_until page end none)

-- pages of the list that were given rights were given the change
module _ (shift : ℕ) (old new : List PageRights) (first end : ℕ) where
  rights_written : (before was rights : Rights) → IsRewritten (listed_rights old) before first end was rights (listed_rights new)
      → IsRewritten (few_change (record { shift = shift; list = old })) (with_shift shift before) first end (with_shift shift was) (with_shift shift rights)
      (few_change (record { shift = shift; list = new }))
  rights_written before was rights given = record {
    at_first =
        ap (unwrap_or (shown shift (listed_rights new first))) (shown_left (record { shift = shift; list = old }) before first)
        ∙ shown_or shift (listed_rights new first) (left_before (listed_rights old) before first) ∙ ap (with_shift shift) given.at_first;
    at_end = λ inside.
        shown_or shift (listed_rights new end) rights ∙ ap (with_shift shift) (given.at_end inside) ∙ sym (shown_or shift (listed_rights old end) was);
    elsewhere = λ q not_first not_end. ap (shown shift) (given.elsewhere q not_first not_end);
  }

  pub shown_written : (before was change : Change) → ShowsChange shift before → ShowsChange shift was → ShowsChange shift change
      → IsRewritten (listed_rights old) before.rights first end was.rights change.rights (listed_rights new)
      → IsRewritten (few_change (record { shift = shift; list = old })) before first end was change (few_change (record { shift = shift; list = new }))
  shown_written before was change is_before is_was is_change given =
      subst (λ (b : Change). IsRewritten (few_change (record { shift = shift; list = old })) b first end was change (few_change (record { shift = shift; list = new }))) (sym is_before)
      (subst (λ (w : Change). IsRewritten (few_change (record { shift = shift; list = old })) (with_shift shift before.rights) first end w change (few_change (record { shift = shift; list = new }))) (sym is_was)
      (subst (λ (c : Change). IsRewritten (few_change (record { shift = shift; list = old })) (with_shift shift before.rights) first end (with_shift shift was.rights) c (few_change (record { shift = shift; list = new }))) (sym is_change)
      (rights_written before.rights was.rights change.rights given)))
