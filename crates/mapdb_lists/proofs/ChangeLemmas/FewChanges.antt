-- The changes of a list in ascending order of page: the last up to a page, the next behind it, one
-- more and one less.
use Rattle.std.proofs.Common.{◌≡◌, ℕ, zero, suc, ◌+◌, ◌-◌, ◌<◌, ◌≤◌, Bool, true, false, refl, sym, ap, subst, ◌∙◌, List, [], ◌∷◌, ◌++◌, length, take, drop, get_or, arith, inl, inr, rules}
use Rattle.std.specs.Prelude.{◌⊎◌, nat_eq, nat_le, Option, Some, None, slice_set, if◌then◌else◌}
use Rattle.std.specs.BTreeMap.{BTreeMap}
use Rattle.std.specs.List.{insert, refill, remove}
use Rattle.std.specs.List.Sorted.{IsNonDecreasingBy, IsPartitionPoint, IsPartitionedBy}
use Rattle.std.proofs.Math.Seq.{take-append_seam}
use Rattle.std.proofs.lemmas.Bool.{cases_Bool, cond-false, cond-true, eq-eqb, eqb-true, false≢true, leb-false, leb-true}
use Rattle.std.proofs.lemmas.Grind.{get_or-set_at}
use Rattle.std.proofs.lemmas.List.{get_or_default, get_or-set_other, get_or-take, length-set, length-take-le, take_more}
use Rattle.std.proofs.lemmas.List.Edits.{get_or-insert_above, get_or-insert_at, get_or-insert_below, get_or-remove_above, get_or-remove_below, length-insert, length-remove}
use Rattle.std.proofs.lemmas.List.Sorted.{IsPartitionedBy-leb}
use Rattle.mapdb_fpage.specs.declared.right_sets.Rights.{Rights}
use Rattle.mapdb_lists.specs.declared.changes.Change.{Change}
use Rattle.mapdb_lists.specs.declared.few_changes.PageRights.{PageRights}
use Rattle.mapdb_lists.specs.FewChanges.{listed_rights, one_change, or_change, shown, with_shift}
use Rattle.mapdb_lists.specs.OwnChanges.{IsLastChange, IsLastUpTo, IsNoneUntil, mapped_change}
use Rattle.mapdb_lists.specs.Changes.{left_before}
use Rattle.mapdb_lists.specs.PageOrder.{AreInFront, IsGap, IsSpot, PagesRise, StandsAtPage}
use Rattle.mapdb_lists.proofs.ChangeLemmas.LastChanges.{changed-none, last_left}

other_page : (a b : ℕ) → (a ≡ b → ⊥) → nat_eq a b ≡ false
other_page a b apart = elim (cases_Bool (nat_eq a b)) [ inl same ↦ absurd (apart (eqb-true a b same)) | inr other ↦ other ]

pub same_page : (a b : PageRights) → a ≡ b → a.page ≡ b.page
same_page a b same = ap (λ (e : PageRights). e.page) same

tail_rises : (x : PageRights) (xs : List PageRights) → PagesRise (x ∷ xs) → PagesRise xs
tail_rises x xs rise i j d less inside = rise (suc i) (suc j) d (omega arith) (omega arith)

-- ---- what stands at a page

-- nothing, where no change of the list is at the page
pub listed_none : (list : List PageRights) (q : ℕ) → ((k : ℕ) (d : PageRights) → k < length list → (get_or list k d).page ≡ q → ⊥) → listed_rights list q ≡ None
listed_none [] q apart = refl
listed_none (x ∷ xs) q apart =
    ap (λ (o : Option Rights). or_change o (listed_rights xs q)) (cond-false (nat_eq x.page q) (Some x.rights) None (other_page x.page q (apart zero x (omega arith))))
    ∙ listed_none xs q (λ k d inside. apart (suc k) d (omega arith))

-- behind one that stands in front of the page
behind_front : (x : PageRights) (xs : List PageRights) (q : ℕ) → x.page < q → listed_rights (x ∷ xs) q ≡ listed_rights xs q
behind_front x xs q less =
    ap (λ (o : Option Rights). or_change o (listed_rights xs q)) (cond-false (nat_eq x.page q) (Some x.rights) None (other_page x.page q (λ same. let no : ⊥ = omega arith in no)))

-- each change of the list, where pages rise
pub listed_there : (list : List PageRights) → PagesRise list → (at : ℕ) (d : PageRights) → at < length list → listed_rights list (get_or list at d).page ≡ Some (get_or list at d).rights
listed_there [] rise at d inside = absurd (omega arith)
listed_there (x ∷ xs) rise zero d inside =
    ap (λ (o : Option Rights). or_change o (listed_rights xs x.page)) (cond-true (nat_eq x.page x.page) (Some x.rights) None (eq-eqb x.page x.page refl))
listed_there (x ∷ xs) rise (suc at) d inside =
    behind_front x xs (get_or xs at d).page (rise zero (suc at) d (omega arith) inside) ∙ listed_there xs (tail_rises x xs rise) at d (omega arith)

module _ (list : List PageRights) (rise : PagesRise list) where
  same_or_less : (i j : ℕ) → i ≤ j → (i ≡ j) ⊎ (i < j)
  same_or_less i j up_to = grind (arith)

  less_or_not : (i j : ℕ) → (i < j) ⊎ (j ≤ i)
  less_or_not i j = grind (arith)

  -- what stands no further in front is at no later page
  no_later : (i j : ℕ) (d : PageRights) → i ≤ j → j < length list → (get_or list i d).page ≤ (get_or list j d).page
  no_later i j d up_to inside = elim (same_or_less i j up_to) [
    | inl same ↦ let e : (get_or list i d).page ≡ (get_or list j d).page = ap (λ k. (get_or list k d).page) same in omega (arith, e)
    | inr less ↦ let l : (get_or list i d).page < (get_or list j d).page = rise i j d less inside in omega (arith, l)
  ]

  pub listed_here : (page at : ℕ) (d : PageRights) → StandsAtPage list page at → Some (get_or list at d).rights ≡ listed_rights list page
  listed_here page at d there = sym (listed_there list rise at d there.inside) ∙ ap (listed_rights list) (there.here d)

  pub listed_gap : (page at : ℕ) → IsGap list page at → listed_rights list page ≡ None
  listed_gap page at gap = listed_none list page (λ k d inside same. elim (less_or_not k at) [
    | inl low ↦ let l : (get_or list k d).page < page = gap.front k d low in let no : ⊥ = omega (arith, l, same) in no
    | inr up ↦ let l : page < (get_or list k d).page = gap.behind k d up inside in let no : ⊥ = omega (arith, l, same) in no
  ])

  -- ---- as a search finds it

  pub pages_part : (page : ℕ) → IsPartitionedBy (λ (e : PageRights). nat_le e.page page) list
  pages_part page = IsPartitionedBy-leb (λ (e : PageRights). e.page) list page no_later_by
    where
      no_later_by : IsNonDecreasingBy (λ (e : PageRights). e.page) list
      no_later_by i j d up_to inside = no_later i j d up_to inside

  pub spot_is : (page spot : ℕ) → spot ≤ length list
      → IsPartitionPoint (λ (e : PageRights). nat_le e.page page ≡ true) (λ (e : PageRights). nat_le e.page page ≡ false) list spot → IsSpot list page spot
  spot_is page spot inside parted = record {
    inside = inside;
    up_to = λ k d low. leb-true (get_or list k d).page page (parted.0 k d (omega arith) low);
    behind = λ k d up within. leb-false (get_or list k d).page page (parted.1 k d up within);
  }

  module _ (page spot : ℕ) (is : IsSpot list page spot) where
    pub none_up_to : spot ≡ 0 → IsLastUpTo (listed_rights list) page None
    none_up_to first q up_to = listed_none list q (λ k d inside same.
        let l : page < (get_or list k d).page = is.behind k d (omega arith) inside in let no : ⊥ = omega (arith, l, same, up_to) in no)

    pub last_up_to : (d : PageRights) → (spot ≡ 0 → ⊥) → IsLastChange (listed_rights list) page ((get_or list (spot - 1) d).page, (get_or list (spot - 1) d).rights)
    last_up_to d some =
        let inside : spot ≤ length list = is.inside in
        record {
          up_to = is.up_to (spot - 1) d (before spot some);
          here = listed_there list rise (spot - 1) d (let b = before spot some in omega (arith, b, inside));
          last = λ q after up_to. listed_none list q (λ k e within same. elim (less_or_not k spot) [
            | inl low ↦
                let l : (get_or list k d).page ≤ (get_or list (spot - 1) d).page = no_later k (spot - 1) d (let b = before spot some in omega (arith, b, low)) (let b = before spot some in omega (arith, b, inside)) in
                let here = at_most k e d within in
                let no : ⊥ = omega (arith, l, same, after, here) in no
            | inr up ↦ let l : page < (get_or list k e).page = is.behind k e up within in let no : ⊥ = omega (arith, l, same, up_to) in no
          ]);
        }
      where
        before : (spot : ℕ) → (spot ≡ 0 → ⊥) → spot - 1 < spot
        before zero some = absurd (some refl)
        before (suc k) some = omega arith

        at_most : (k : ℕ) (e d : PageRights) → k < length list → (get_or list k e).page ≡ (get_or list k d).page
        at_most k e d within = same_page (get_or list k e) (get_or list k d) (get_or_default list k e d within)

    pub none_until : (end : ℕ) → ((d : PageRights) → spot < length list → end ≤ (get_or list spot d).page) → IsNoneUntil (listed_rights list) page end
    none_until end up_to q above before = listed_none list q (λ k d inside same. elim (less_or_not k spot) [
      | inl low ↦ let l : (get_or list k d).page ≤ page = is.up_to k d low in let no : ⊥ = omega (arith, l, same, above) in no
      | inr up ↦
          let l : (get_or list spot d).page ≤ (get_or list k d).page = no_later spot k d up inside in
          let e : end ≤ (get_or list spot d).page = up_to d (omega (arith, up, inside)) in
          let no : ⊥ = omega (arith, l, e, same, before) in no
    ])

  -- ---- what stands at a page, and what in front of it

  pub spot_behind : (page at : ℕ) → StandsAtPage list page at → IsSpot list page (at + 1)
  spot_behind page at there = record {
    inside = let i : at < length list = there.inside in omega (arith, i);
    up_to = λ k d low.
        let l : (get_or list k d).page ≤ (get_or list at d).page = no_later k at d (omega (arith, low)) there.inside in
        let h : (get_or list at d).page ≡ page = there.here d in omega (arith, l, h);
    behind = λ k d up within.
        let l : (get_or list at d).page < (get_or list k d).page = rise at k d (omega (arith, up)) within in
        let h : (get_or list at d).page ≡ page = there.here d in omega (arith, l, h);
  }

  pub front_there : (page at : ℕ) → StandsAtPage list page at → AreInFront list page at
  front_there page at there = record {
    front = λ k d low.
        let l : (get_or list k d).page < (get_or list at d).page = rise k at d low there.inside in
        let h : (get_or list at d).page ≡ page = there.here d in omega (arith, l, h);
    others = λ k d up within.
        let l : (get_or list at d).page ≤ (get_or list k d).page = no_later at k d up within in
        let h : (get_or list at d).page ≡ page = there.here d in omega (arith, l, h);
  }

  pub front_gap : (page at : ℕ) → IsGap list page at → AreInFront list page at
  front_gap page at gap = record {
    front = gap.front;
    others = λ k d up within. let l : page < (get_or list k d).page = gap.behind k d up within in omega (arith, l);
  }

  -- the changes in front of a page leave what the last of them says
  front_spot : (page at : ℕ) → at ≤ length list → AreInFront list (suc page) at → IsSpot list page at
  front_spot page at inside is = record {
    inside = inside;
    up_to = λ k d low. let l : (get_or list k d).page < suc page = is.front k d low in omega (arith, l);
    behind = λ k d up within. let l : suc page ≤ (get_or list k d).page = is.others k d up within in omega (arith, l);
  }

  pub front_none : (before : Rights) (page at : ℕ) → at ≤ length list → AreInFront list page at → at ≡ 0 → before ≡ left_before (listed_rights list) before page
  front_none before zero at inside is first = refl
  front_none before (suc page) at inside is first =
      sym (changed-none (listed_rights list) before page (none_up_to page at (front_spot page at inside is) first))

  pub front_some : (before : Rights) (page at : ℕ) (d : PageRights) → at ≤ length list → AreInFront list page at → (at ≡ 0 → ⊥)
      → (get_or list (at - 1) d).rights ≡ left_before (listed_rights list) before page
  front_some before zero at d inside is some =
      let l : (get_or list 0 d).page < 0 = is.front 0 d (above at some) in let no : ⊥ = omega (arith, l) in absurd no
    where
      above : (n : ℕ) → (n ≡ 0 → ⊥) → 0 < n
      above zero some = absurd (some refl)
      above (suc n) some = omega arith
  front_some before (suc page) at d inside is some =
      sym (last_left (listed_rights list) before page ((get_or list (at - 1) d).page, (get_or list (at - 1) d).rights) (last_up_to page at (front_spot page at inside is) d some))

  -- behind a page up to an end there is none: one at the end belongs behind those up to the page
  pub gap_at_end : (first end spot : ℕ) → IsSpot list first spot → first < end → IsNoneUntil (listed_rights list) first end
      → ((d : PageRights) → spot < length list → (get_or list spot d).page ≡ end → ⊥) → IsGap list end spot
  gap_at_end first end spot is some none apart = record {
    inside = is.inside;
    front = λ k d low. let l : (get_or list k d).page ≤ first = is.up_to k d low in omega (arith, l, some);
    behind = λ k d up within.
        let later : (get_or list spot d).page ≤ (get_or list k d).page = no_later spot k d up within in
        let l : end < (get_or list spot d).page = beyond d (omega (arith, up, within)) in omega (arith, later, l);
  }
    where
      three : (a b : ℕ) → (a < b) ⊎ ((a ≡ b) ⊎ (b < a))
      three a b = grind (arith)

      beyond : (d : PageRights) → spot < length list → end < (get_or list spot d).page
      beyond d inside = elim (three (get_or list spot d).page end) [
        | inl before ↦ absurd (some_none (sym (listed_there list rise spot d inside)
            ∙ none (get_or list spot d).page (is.behind spot d (omega arith) inside) before))
        | inr more ↦ elim more [
          | inl same ↦ absurd (apart d inside same)
          | inr later ↦ later
        ]
      ]
        where
          some_none : {c : Rights} → Some c ≡ None → ⊥
          some_none e = search rules

  -- ---- one less

  module _ (page at : ℕ) (there : StandsAtPage list page at) where
    low_page : (k : ℕ) (d : PageRights) → k < at → (get_or (remove list at) k d).page ≡ (get_or list k d).page
    low_page k d low = same_page (get_or (remove list at) k d) (get_or list k d) (get_or-remove_below list at d k low there.inside)

    high_page : (k : ℕ) (d : PageRights) → at ≤ k → (get_or (remove list at) k d).page ≡ (get_or list (k + 1) d).page
    high_page k d up = same_page (get_or (remove list at) k d) (get_or list (k + 1) d) (get_or-remove_above list at d k up there.inside)

    pub remove_rises : PagesRise (remove list at)
    remove_rises i j d less inside =
        let shorter : length (remove list at) + 1 ≡ length list = length-remove list at there.inside in
        elim (less_or_not i at) [
          | inl low ↦ elim (less_or_not j at) [
            | inl low_too ↦
                let one = low_page i d low in let other = low_page j d low_too in
                let l : (get_or list i d).page < (get_or list j d).page = rise i j d less (omega (arith, inside, shorter)) in omega (arith, one, other, l)
            | inr up ↦
                let one = low_page i d low in let other = high_page j d up in
                let l : (get_or list i d).page < (get_or list (j + 1) d).page = rise i (j + 1) d (omega (arith, less)) (omega (arith, inside, shorter)) in omega (arith, one, other, l)
          ]
          | inr up ↦
              let one = high_page i d up in let other = high_page j d (omega (arith, up, less)) in
              let l : (get_or list (i + 1) d).page < (get_or list (j + 1) d).page = rise (i + 1) (j + 1) d (omega (arith, less)) (omega (arith, inside, shorter)) in omega (arith, one, other, l)
        ]

    pub remove_spot : IsSpot (remove list at) page at
    remove_spot =
        let shorter : length (remove list at) + 1 ≡ length list = length-remove list at there.inside in
        record {
          inside = let i : at < length list = there.inside in omega (arith, i, shorter);
          up_to = λ k d low.
              let same = low_page k d low in let l : (get_or list k d).page < (get_or list at d).page = rise k at d low there.inside in
              let h : (get_or list at d).page ≡ page = there.here d in omega (arith, same, l, h);
          behind = λ k d up within.
              let same = high_page k d up in
              let l : (get_or list at d).page < (get_or list (k + 1) d).page = rise at (k + 1) d (omega (arith, up)) (omega (arith, within, shorter)) in
              let h : (get_or list at d).page ≡ page = there.here d in omega (arith, same, l, h);
        }

  -- ---- one in place of another at its page

  module _ (page at : ℕ) (rights : Rights) (there : StandsAtPage list page at) where
    set_page : (k : ℕ) (d : PageRights) → (get_or (slice_set list at (record { page = page; rights = rights })) k d).page ≡ (get_or list k d).page
    set_page k d = elim (two k at) [
      | inl same ↦
          same_page (get_or (slice_set list at (record { page = page; rights = rights })) k d) (record { page = page; rights = rights })
          (get_or-set_at list at k (record { page = page; rights = rights }) d same there.inside)
          ∙ sym (there.here d) ∙ ap (λ n. (get_or list n d).page) (sym same)
      | inr other ↦
          same_page (get_or (slice_set list at (record { page = page; rights = rights })) k d) (get_or list k d)
          (get_or-set_other list at k (record { page = page; rights = rights }) d other)
    ]
      where
        two : (k at : ℕ) → (k ≡ at) ⊎ (k ≡ at → ⊥)
        two k at = elim (cases_Bool (nat_eq k at)) [ inl same ↦ inl (eqb-true k at same) | inr other ↦ inr (λ same. false≢true (sym other ∙ eq-eqb k at same)) ]

    pub set_rises : PagesRise (slice_set list at (record { page = page; rights = rights }))
    set_rises i j d less inside =
        let same_length : length (slice_set list at (record { page = page; rights = rights })) ≡ length list = length-set list at (record { page = page; rights = rights }) in
        let one = set_page i d in let other = set_page j d in
        let l : (get_or list i d).page < (get_or list j d).page = rise i j d less (omega (arith, inside, same_length)) in omega (arith, one, other, l)

    pub set_stands : StandsAtPage (slice_set list at (record { page = page; rights = rights })) page at
    set_stands = record {
      inside = let i : at < length list = there.inside in let same : length (slice_set list at (record { page = page; rights = rights })) ≡ length list = length-set list at (record { page = page; rights = rights }) in omega (arith, i, same);
      here = λ d. set_page at d ∙ there.here d;
    }

  -- ---- one more, between others

  module _ (page at : ℕ) (rights : Rights) (gap : IsGap list page at) where
    new_low : (k : ℕ) (d : PageRights) → k < at → (get_or (insert list at (record { page = page; rights = rights })) k d).page ≡ (get_or list k d).page
    new_low k d low =
        same_page (get_or (insert list at (record { page = page; rights = rights })) k d) (get_or list k d)
        (get_or-insert_below list at (record { page = page; rights = rights }) d k low gap.inside)

    new_here : (k : ℕ) (d : PageRights) → k ≡ at → (get_or (insert list at (record { page = page; rights = rights })) k d).page ≡ page
    new_here k d here =
        ap (λ n. (get_or (insert list at (record { page = page; rights = rights })) n d).page) here
        ∙ same_page (get_or (insert list at (record { page = page; rights = rights })) at d) (record { page = page; rights = rights })
        (get_or-insert_at list at (record { page = page; rights = rights }) d gap.inside)

    new_high : (k : ℕ) (d : PageRights) → at < k → (get_or (insert list at (record { page = page; rights = rights })) k d).page ≡ (get_or list (k - 1) d).page
    new_high k d less =
        ap (λ n. (get_or (insert list at (record { page = page; rights = rights })) n d).page) (again k at less)
        ∙ same_page (get_or (insert list at (record { page = page; rights = rights })) (k - 1 + 1) d) (get_or list (k - 1) d)
        (get_or-insert_above list at (record { page = page; rights = rights }) d (k - 1) (omega arith) gap.inside)
      where
        again : (k at : ℕ) → at < k → k ≡ k - 1 + 1
        again k at less = omega arith

    pub insert_stands : StandsAtPage (insert list at (record { page = page; rights = rights })) page at
    insert_stands = record {
      inside = let i : at ≤ length list = gap.inside in let longer : length (insert list at (record { page = page; rights = rights })) ≡ length list + 1 = length-insert list at (record { page = page; rights = rights }) gap.inside in omega (arith, i, longer);
      here = λ d. new_here at d refl;
    }

    three : (k : ℕ) → (k < at) ⊎ ((k ≡ at) ⊎ (at < k))
    three k = grind (arith)

    pub insert_rises : PagesRise (insert list at (record { page = page; rights = rights }))
    insert_rises i j d less inside =
        let longer : length (insert list at (record { page = page; rights = rights })) ≡ length list + 1 = length-insert list at (record { page = page; rights = rights }) gap.inside in
        let upto : at ≤ length list = gap.inside in
        elim (three i) [
          | inl low ↦ elim (three j) [
            | inl low_too ↦
                let one = new_low i d low in let other = new_low j d low_too in
                let l : (get_or list i d).page < (get_or list j d).page = rise i j d less (omega (arith, low_too, upto)) in omega (arith, one, other, l)
            | inr more ↦ elim more [
              | inl here ↦
                  let one = new_low i d low in let other = new_here j d here in
                  let l : (get_or list i d).page < page = gap.front i d low in omega (arith, one, other, l)
              | inr high ↦
                  let one = new_low i d low in let other = new_high j d high in
                  let l : (get_or list i d).page < (get_or list (j - 1) d).page = rise i (j - 1) d (omega (arith, low, high)) (omega (arith, high, inside, longer)) in omega (arith, one, other, l)
            ]
          ]
          | inr more ↦ elim more [
            | inl here ↦
                let one = new_here i d here in let other = new_high j d (omega (arith, here, less)) in
                let l : page < (get_or list (j - 1) d).page = gap.behind (j - 1) d (omega (arith, here, less)) (omega (arith, here, less, inside, longer)) in omega (arith, one, other, l)
            | inr high ↦
                let one = new_high i d high in let other = new_high j d (omega (arith, high, less)) in
                let l : (get_or list (i - 1) d).page < (get_or list (j - 1) d).page = rise (i - 1) (j - 1) d (omega (arith, high, less)) (omega (arith, high, less, inside, longer)) in omega (arith, one, other, l)
          ]
        ]

-- ---- the changes then

-- without the one at the page
pub removed : (list : List PageRights) → PagesRise list → (at page : ℕ) → StandsAtPage list page at
    → (q : ℕ) → listed_rights (remove list at) q ≡ (if nat_eq page q then None else listed_rights list q)
removed [] rise at page there q = let i : at < 0 = there.inside in absurd (omega (arith, i))
removed (x ∷ xs) rise zero page there q = by (nat_eq page q) refl
  where
    here : x.page ≡ page
    here = there.here x

    by : (b : Bool) → nat_eq page q ≡ b → listed_rights xs q ≡ (if b then None else listed_rights (x ∷ xs) q)
    by true same = listed_none xs q (λ k d inside at_q.
        let l : x.page < (get_or xs k d).page = rise zero (suc k) d (omega arith) (omega (arith, inside)) in
        let e = eqb-true page q same in let no : ⊥ = omega (arith, l, at_q, e, here) in no)
    by false other = sym (ap (λ (o : Option Rights). or_change o (listed_rights xs q)) (cond-false (nat_eq x.page q) (Some x.rights) None (ap (λ n. nat_eq n q) here ∙ other)))
removed (x ∷ xs) rise (suc at) page there q =
    ap (or_change (one_change x q)) (removed xs (tail_rises x xs rise) at page (record { inside = within; here = λ d. there.here d }) q) ∙ by (nat_eq page q) refl
  where
    within : at < length xs
    within = let i : suc at < length (x ∷ xs) = there.inside in omega (arith, i)

    front : x.page < page
    front = subst (λ n. x.page < n) (there.here x) (rise zero (suc at) x (omega arith) there.inside)

    by : (b : Bool) → nat_eq page q ≡ b → or_change (one_change x q) (if b then None else listed_rights xs q) ≡ (if b then None else listed_rights (x ∷ xs) q)
    by true same =
        ap (λ (o : Option Rights). or_change o None) (cond-false (nat_eq x.page q) (Some x.rights) None (other_page x.page q (λ e. let s = eqb-true page q same in let no : ⊥ = omega (arith, s, e, front) in no)))
    by false other = refl

-- what a change is put behind shows through where the pages differ
past : (x : PageRights) (page : ℕ) (rights : Rights) (rest : Option Rights) (q : ℕ) → x.page < page
    → or_change (one_change x q) (if nat_eq page q then Some rights else rest) ≡ (if nat_eq page q then Some rights else or_change (one_change x q) rest)
past x page rights rest q front = by (nat_eq page q) refl
  where
    by : (b : Bool) → nat_eq page q ≡ b → or_change (one_change x q) (if b then Some rights else rest) ≡ (if b then Some rights else or_change (one_change x q) rest)
    by true same =
        ap (λ (o : Option Rights). or_change o (Some rights)) (cond-false (nat_eq x.page q) (Some x.rights) None (other_page x.page q (λ e. let s = eqb-true page q same in let no : ⊥ = omega (arith, s, e, front) in no)))
    by false apart = refl

-- with one in place of another at its page
pub put_over : (list : List PageRights) → PagesRise list → (at page : ℕ) (rights : Rights) → StandsAtPage list page at
    → (q : ℕ) → listed_rights (slice_set list at (record { page = page; rights = rights })) q ≡ (if nat_eq page q then Some rights else listed_rights list q)
put_over [] rise at page rights there q = let i : at < 0 = there.inside in absurd (omega (arith, i))
put_over (x ∷ xs) rise zero page rights there q = by (nat_eq page q) refl
  where
    by : (b : Bool) → nat_eq page q ≡ b → or_change (if b then Some rights else None) (listed_rights xs q) ≡ (if b then Some rights else or_change (one_change x q) (listed_rights xs q))
    by true same = refl
    by false apart =
        sym (ap (λ (o : Option Rights). or_change o (listed_rights xs q)) (cond-false (nat_eq x.page q) (Some x.rights) None (ap (λ n. nat_eq n q) (there.here x) ∙ apart)))
put_over (x ∷ xs) rise (suc at) page rights there q =
    ap (or_change (one_change x q)) (put_over xs (tail_rises x xs rise) at page rights (record { inside = within; here = λ d. there.here d }) q)
    ∙ past x page rights (listed_rights xs q) q front
  where
    within : at < length xs
    within = let i : suc at < length (x ∷ xs) = there.inside in omega (arith, i)

    front : x.page < page
    front = subst (λ n. x.page < n) (there.here x) (rise zero (suc at) x (omega arith) there.inside)

-- with one where none was
pub put_between : (list : List PageRights) (at page : ℕ) (rights : Rights) → IsGap list page at
    → (q : ℕ) → listed_rights (insert list at (record { page = page; rights = rights })) q ≡ (if nat_eq page q then Some rights else listed_rights list q)
put_between list zero page rights gap q = first (nat_eq page q)
  where
    first : (b : Bool) → or_change (if b then Some rights else None) (listed_rights list q) ≡ (if b then Some rights else listed_rights list q)
    first true = refl
    first false = refl
put_between [] (suc at) page rights gap q = let i : suc at ≤ 0 = gap.inside in absurd (omega (arith, i))
put_between (x ∷ xs) (suc at) page rights gap q =
    ap (or_change (one_change x q)) (put_between xs at page rights (record {
      inside = let i : suc at ≤ length (x ∷ xs) = gap.inside in omega (arith, i);
      front = λ k d low. gap.front (suc k) d (omega (arith, low));
      behind = λ k d up inside. gap.behind (suc k) d (omega (arith, up)) (omega (arith, inside));
    }) q)
    ∙ past x page rights (listed_rights xs q) q (gap.front zero x (omega arith))

-- a list filled up to its length is that list
pub refilled : (xs ys : List PageRights) → length ys ≡ length xs → refill (length xs) xs ys ≡ ys
refilled xs ys same = ap (λ n. take n (ys ++ drop (length ys) xs)) (sym same) ∙ take-append_seam ys (drop (length ys) xs)

-- ---- in a map

listed_more : (xs : List PageRights) (e : PageRights) (q : ℕ) → listed_rights (xs ++ e ∷ []) q ≡ or_change (listed_rights xs q) (one_change e q)
listed_more [] e q = last (one_change e q)
  where
    last : (o : Option Rights) → or_change o None ≡ o
    last None = refl
    last (Some c) = refl
listed_more (x ∷ xs) e q = ap (or_change (one_change x q)) (listed_more xs e q) ∙ turn (one_change x q) (listed_rights xs q) (one_change e q)
  where
    turn : (a b c : Option Rights) → or_change a (or_change b c) ≡ or_change (or_change a b) c
    turn None b c = refl
    turn (Some v) b c = refl

listed_step : (list : List PageRights) (i : ℕ) (d : PageRights) (q : ℕ) → i < length list
    → listed_rights (take (i + 1) list) q ≡ or_change (listed_rights (take i list) q) (one_change (get_or list i d) q)
listed_step list i d q inside = ap (λ (done : List PageRights). listed_rights done q) (take_more list i d inside) ∙ listed_more (take i list) (get_or list i d) q

-- the changes so far in a map, and with one more, which none of them is at the page of
pub mapped_step : (shift : ℕ) (list : List PageRights) → PagesRise list → (i : ℕ) (d : PageRights) (change : Change) (old new : BTreeMap ℕ Change) → i < length list
    → change ≡ with_shift shift (get_or list i d).rights
    → ((q : ℕ) → mapped_change new q ≡ (if nat_eq (get_or list i d).page q then Some change else mapped_change old q))
    → ((q : ℕ) → mapped_change old q ≡ shown shift (listed_rights (take i list) q)) → (q : ℕ) → mapped_change new q ≡ shown shift (listed_rights (take (i + 1) list) q)
mapped_step shift list rise i d change old new inside is put h q = put q ∙ by (nat_eq (get_or list i d).page q) refl ∙ sym (ap (shown shift) (listed_step list i d q inside))
  where
    none : (get_or list i d).page ≡ q → listed_rights (take i list) q ≡ None
    none here = listed_none (take i list) q (λ k f within at_q.
        let long : length (take i list) ≡ i = length-take-le i list (omega (arith, inside)) in
        let short : k < i = omega (arith, long, within) in
        let less : (get_or list k f).page < (get_or list i f).page = rise k i f short inside in
        let same : (get_or (take i list) k f).page ≡ (get_or list k f).page = same_page (get_or (take i list) k f) (get_or list k f) (get_or-take i list k f short) in
        let one : (get_or list i f).page ≡ (get_or list i d).page = same_page (get_or list i f) (get_or list i d) (get_or_default list i f d inside) in
        let no : ⊥ = omega (arith, less, same, one, here, at_q) in no)

    last : (o : Option Rights) → o ≡ or_change o None
    last None = refl
    last (Some c) = refl

    by : (b : Bool) → nat_eq (get_or list i d).page q ≡ b → (if b then Some change else mapped_change old q)
        ≡ shown shift (or_change (listed_rights (take i list) q) (if b then Some (get_or list i d).rights else None))
    by true same =
        ap (λ (c : Change). Some c) is ∙ sym (ap (λ (found : Option Rights). shown shift (or_change found (Some (get_or list i d).rights))) (none (eqb-true (get_or list i d).page q same)))
    by false other = h q ∙ ap (shown shift) (last (listed_rights (take i list) q))
