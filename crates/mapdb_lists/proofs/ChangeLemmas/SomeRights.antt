-- Whether a few changes leave rights at some page.
use Rattle.std.proofs.Common.{◌≡◌, ℕ, zero, suc, ◌<◌, ◌≤◌, Bool, true, false, refl, sym, ap, subst, ◌∙◌, List, [], ◌∷◌, length, get_or, arith, inl, inr}
use Rattle.std.specs.Prelude.{◌&&◌, ◌⊎◌, Option, None, Some, nat_eq, nat_lt, not}
use Rattle.std.specs.Option.{is_some, unwrap_or}
use Rattle.std.proofs.lemmas.Bool.{and_from, and_parts, cases_Bool, cond-false, cond-true, eqb-true, false≢true, lt-ltb, ltb-true, not-true}
use Rattle.mapdb_fpage.specs.Bounds.{page_limit}
use Rattle.mapdb_fpage.specs.RightSets.{is_empty}
use Rattle.mapdb_fpage.specs.declared.right_sets.Rights.{Rights}
use Rattle.mapdb_lists.specs.declared.changes.Change.{Change}
use Rattle.mapdb_lists.specs.declared.few_changes.PageRights.{PageRights}
use Rattle.mapdb_lists.specs.Changes.{changed}
use Rattle.mapdb_lists.specs.FewChanges.{ListedChanges, few_change, listed_rights, or_change, shown, with_shift}
use Rattle.mapdb_lists.specs.PageOrder.{PagesRise}
use Rattle.mapdb_lists.specs.Replacing.{HasNoRights, HasRights}
use Rattle.mapdb_lists.proofs.ChangeLemmas.FewChanges.{listed_none, listed_there}
use Rattle.mapdb_lists.proofs.ChangeLemmas.LastChanges.{changed-here}

-- the change is at a page of the space and has rights
abbrev pub counts : PageRights → Bool
counts one = nat_lt one.page page_limit && not (is_empty one.rights)

-- one that counts says so at its page
pub counted : (list : List PageRights) → PagesRise list → (at : ℕ) (one : PageRights) → at < length list → one ≡ get_or list at one → counts one ≡ true
    → (page : ℕ) × (rights : Rights) × (page < page_limit) × (listed_rights list page ≡ Some rights) × (is_empty rights ≡ false)
counted list rise at one inside is counting =
    let parts = and_parts (nat_lt one.page page_limit) (not (is_empty one.rights)) counting in (
      one.page,
      one.rights,
      ltb-true one.page page_limit parts.0,
      subst (λ (o : PageRights). listed_rights list o.page ≡ Some o.rights) (sym is) (listed_there list rise at one inside),
      not-true (is_empty one.rights) parts.1,
    )

-- what a list says at a page is what one of its changes says
pub of_one : (list : List PageRights) (page : ℕ) (rights : Rights) → listed_rights list page ≡ Some rights
    → ((k : ℕ) (d : PageRights) → k < length list → (get_or list k d).page ≡ page → is_empty (get_or list k d).rights ≡ true) → is_empty rights ≡ true
of_one [] page rights is none = absurd (false≢true (ap is_some is))
of_one (x ∷ xs) page rights is none = elim (cases_Bool (nat_eq x.page page)) [
  | inl here ↦
      sym (ap (λ (o : Option Rights). is_empty (unwrap_or o rights))
      (sym (ap (λ (o : Option Rights). or_change o (listed_rights xs page)) (cond-true (nat_eq x.page page) (Some x.rights) None here)) ∙ is))
      ∙ none 0 x (omega arith) (eqb-true x.page page here)
  | inr other ↦
      of_one xs page rights
      (sym (ap (λ (o : Option Rights). or_change o (listed_rights xs page)) (cond-false (nat_eq x.page page) (Some x.rights) None other)) ∙ is)
      (λ k d inside. none (suc k) d (omega arith))
]

-- changes without rights leave none where none stood before them
none_left : (at : ℕ → Option Change) (before : Change) (page : ℕ) → ((q : ℕ) (change : Change) → q ≤ page → at q ≡ Some change → is_empty change.rights ≡ true)
    → (at 0 ≡ None → is_empty before.rights ≡ true) → is_empty (changed at before page).rights ≡ true
unfolding changed
none_left at before zero none first = left (at zero) refl
  where
    left : (o : Option Change) → at zero ≡ o → is_empty (unwrap_or (at zero) before).rights ≡ true
    left None is = ap (λ (o : Option Change). is_empty (unwrap_or o before).rights) is ∙ first is
    left (Some change) is = ap (λ (o : Option Change). is_empty (unwrap_or o before).rights) is ∙ none zero change (omega arith) is
none_left at before (suc page) none first = left (none_left at before page (λ q change up_to. none q change (omega arith)) first) (at (suc page)) refl
  where
    left : is_empty (changed at before page).rights ≡ true → (o : Option Change) → at (suc page) ≡ o → is_empty (unwrap_or (at (suc page)) (changed at before page)).rights ≡ true
    left earlier None is = ap (λ (o : Option Change). is_empty (unwrap_or o (changed at before page)).rights) is ∙ earlier
    left earlier (Some change) is = ap (λ (o : Option Change). is_empty (unwrap_or o (changed at before page)).rights) is ∙ none (suc page) change (omega arith) is

-- where none counts, no page of the space has rights by the list
pub none_counted : (list : List PageRights) → ((k : ℕ) (d : PageRights) → k < length list → counts (get_or list k d) ≡ false)
    → (page : ℕ) (rights : Rights) → page < page_limit → listed_rights list page ≡ Some rights → is_empty rights ≡ true
none_counted list none page rights inside is = of_one list page rights is (λ k d within here.
    elim (cases_Bool (is_empty (get_or list k d).rights)) [
      | inl empty ↦ empty
      | inr some ↦ absurd (false≢true (sym (none k d within) ∙ and_from (nat_lt (get_or list k d).page page_limit) (not (is_empty (get_or list k d).rights))
          (lt-ltb (get_or list k d).page page_limit (subst (λ p. p < page_limit) (sym here) inside)) (ap not some)))
    ])

-- no change stands at the first page, where the first one stands behind it
pub none_at_first : (list : List PageRights) → PagesRise list → ((d : PageRights) → 0 < length list → 0 < (get_or list 0 d).page) → listed_rights list 0 ≡ None
none_at_first list rise first = listed_none list 0 apart
  where
    apart : (k : ℕ) (d : PageRights) → k < length list → (get_or list k d).page ≡ 0 → ⊥
    apart zero d inside here = let l : 0 < (get_or list 0 d).page = first d inside in let no : ⊥ = omega (arith, l, here) in no
    apart (suc k) d inside here = let l : (get_or list 0 d).page < (get_or list (suc k) d).page = rise 0 (suc k) d (omega arith) inside in let no : ⊥ = omega (arith, l, here) in no

-- and the first one stands behind it, where none stands there
pub first_behind : (list : List PageRights) → PagesRise list → listed_rights list 0 ≡ None → (d : PageRights) → 0 < length list → 0 < (get_or list 0 d).page
first_behind list rise none d inside = elim (none_or_more (get_or list 0 d).page) [
  | inl here ↦
      absurd (false≢true (ap is_some (sym none ∙ subst (λ page. listed_rights list page ≡ Some (get_or list 0 d).rights) here (listed_there list rise 0 d inside))))
  | inr more ↦ more
]
  where
    none_or_more : (page : ℕ) → (page ≡ 0) ⊎ (0 < page)
    none_or_more page = grind (arith)

module _ (few : ListedChanges) (before : Change) where
  -- rights of a change stand at its page
  pub some_listed : (page : ℕ) (rights : Rights) → page < page_limit → listed_rights few.list page ≡ Some rights → is_empty rights ≡ false
      → HasRights (few_change few) before
  some_listed page rights inside is some =
      (page, inside, ap (λ (change : Change). is_empty change.rights) (changed-here (few_change few) before (with_shift few.shift rights) page (ap (shown few.shift) is)) ∙ some)

  -- what stands before any change stands at the first page, where no change does
  pub some_before : listed_rights few.list 0 ≡ None → is_empty before.rights ≡ false → HasRights (few_change few) before
  unfolding changed
  some_before none some =
      (0, omega arith, ap (λ (o : Option Rights). is_empty (unwrap_or (shown few.shift o) before).rights) none ∙ some)

  shown_none : (o : Option Rights) (change : Change) → shown few.shift o ≡ Some change → ((rights : Rights) → o ≡ Some rights → is_empty rights ≡ true) → is_empty change.rights ≡ true
  shown_none None change is none = absurd (false≢true (ap is_some is))
  shown_none (Some rights) change is none = sym (ap (λ (o : Option Change). is_empty (unwrap_or o change).rights) is) ∙ none rights refl

  nothing_shown : (o : Option Rights) → shown few.shift o ≡ None → o ≡ None
  nothing_shown None is = refl
  nothing_shown (Some rights) is = absurd (false≢true (sym (ap is_some is)))

  -- no rights at any page
  pub none_listed : ((page : ℕ) (rights : Rights) → page < page_limit → listed_rights few.list page ≡ Some rights → is_empty rights ≡ true)
      → (listed_rights few.list 0 ≡ None → is_empty before.rights ≡ true) → HasNoRights (few_change few) before
  none_listed none first page inside =
      none_left (few_change few) before page
      (λ q change up_to is. shown_none (listed_rights few.list q) change is (λ rights here. none q rights (omega (arith, inside, up_to)) here))
      (λ is. first (nothing_shown (listed_rights few.list 0) is))
