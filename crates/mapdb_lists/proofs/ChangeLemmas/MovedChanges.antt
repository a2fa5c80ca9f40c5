-- A change that goes, and one that comes at the same index.
use Rattle.std.proofs.Common.{◌≡◌, ◌↔◌, ℕ, Bool, true, false, not, zero, suc, ◌+◌, ◌<◌, refl, sym, ap, ◌∙◌, List, [], ◌∷◌, length, get_or, arith, inl, inr, rules}
use Rattle.std.specs.Prelude.{IfNone, IfSome, IsSome, IsTrue, Option, Some, None, slice_set}
use Rattle.std.specs.List.{insert, remove}
use Rattle.std.specs.Option.{is_some, unwrap_or}
use Rattle.std.proofs.lemmas.Bool.{true≢false}
use Rattle.std.proofs.lemmas.List.Edits.{get_or-remove_above, get_or-remove_below, length-remove}
use Rattle.mapdb_fpage.specs.Bounds.{page_limit}
use Rattle.mapdb_lists.specs.Changes.{MovesBack, MovesOn, IsOneForOne, IsRewritten, left_before}
use Rattle.mapdb_fpage.specs.declared.right_sets.Rights.{Rights}
use Rattle.mapdb_lists.specs.declared.few_changes.PageRights.{PageRights}
use Rattle.mapdb_lists.specs.FewChanges.{listed_rights}
use Rattle.mapdb_lists.specs.OwnChanges.{IsNoneUntil}
use Rattle.mapdb_lists.specs.PageOrder.{IsGap, IsSpot, PagesRise, StandsAtPage}
use Rattle.mapdb_lists.proofs.ChangeLemmas.FewChanges.{gap_at_end, insert_rises, listed_gap, listed_here, listed_there, put_between, remove_rises, remove_spot, removed, spot_behind, same_page}
use Rattle.mapdb_lists.proofs.ChangeLemmas.ListWrites.{put_elsewhere, put_here}

pub exchanged : (list : List PageRights) (at : ℕ) (next : PageRights) → at < length list → slice_set list at next ≡ insert (remove list at) at next
exchanged [] at next inside = absurd (omega (arith, inside))
exchanged (x ∷ list) zero next inside = refl
exchanged (x ∷ list) (suc at) next inside = ap (λ (rest : List PageRights). x ∷ rest) (exchanged list at next (omega (arith, inside)))

some_none : {rights : Rights} → Some rights ≡ None → ⊥
some_none e = search rules

module _ (list : List PageRights) (rise : PagesRise list) (first end at : ℕ) (some : first < end) where
  apart : first ≡ end → ⊥
  apart e = let no : ⊥ = omega (arith, e, some) in no

  apart_too : end ≡ first → ⊥
  apart_too e = let no : ⊥ = omega (arith, e, some) in no

  -- ---- whether one stands at the end

  -- where none does, none of the list is at its page
  pub none_next : listed_rights list end ≡ None → (k : ℕ) (d : PageRights) → k < length list → (get_or list k d).page ≡ end → ⊥
  none_next none k d inside here = some_none (sym (listed_there list rise k d inside) ∙ ap (listed_rights list) here ∙ none)

  module _ (one : IsNoneUntil (listed_rights list) first end) where
    pub none_behind : StandsAtPage list first at → (o : Option Rights) (none : Bool) → is_some o ≡ not none
        → IfNone o ((d : PageRights) → at + 1 < length list → (get_or list (at + 1) d).page ≡ end → ⊥)
        → IfSome o (λ rights. listed_rights list end ≡ Some rights) → IsTrue none ↔ (listed_rights list end ≡ None)
    none_behind there None true is apart_from found =
        ((λ _. listed_gap list rise end (at + 1) (gap_at_end list rise first end (at + 1) (spot_behind list rise first at there) some one apart_from)), (λ _. refl))
    none_behind there None false is apart_from found = absurd (true≢false (sym is))
    none_behind there (Some rights) true is apart_from found = absurd (true≢false is)
    none_behind there (Some rights) false is apart_from found = ((λ no. absurd (true≢false (sym no))), (λ none. absurd (some_none (sym found ∙ none))))

    pub none_there : IsGap list first at → ((d : PageRights) → at < length list → (get_or list at d).page ≡ end → ⊥) → listed_rights list end ≡ None
    none_there gap apart_from = listed_gap list rise end at (gap_at_end list rise first end at spot some one apart_from)
      where
        spot : IsSpot list first at
        spot = record {
          inside = gap.inside;
          up_to = λ k d low. let l : (get_or list k d).page < first = gap.front k d low in omega (arith, l);
          behind = gap.behind;
        }

  -- ---- what there is to exchange

  module _ (before rights : Rights) (within : end < page_limit) where
    pub one_on : StandsAtPage list first at → MovesOn (listed_rights list) before first end rights ↔ IsOneForOne (listed_rights list) before first end rights
    one_on there = ((λ on. (within, inl (here, on))), (λ is. elim is.1 [ inl on ↦ on.1 | inr back ↦ absurd (true≢false (sym here ∙ ap is_some back.0)) ]))
      where
        here : IsSome (listed_rights list first)
        here = ap is_some (sym (listed_here list rise first at (record { page = first; rights = rights }) there))

    pub one_back : IsGap list first at → MovesBack (listed_rights list) before first end rights ↔ IsOneForOne (listed_rights list) before first end rights
    one_back gap = ((λ back. (within, inr (none, back))), (λ is. elim is.1 [ inl on ↦ absurd (true≢false (sym on.0 ∙ ap is_some none)) | inr back ↦ back.1 ]))
      where
        none : listed_rights list first ≡ None
        none = listed_gap list rise first at gap

  -- ---- the one at the first page goes, and one comes at the end

  module _ (there : StandsAtPage list first at) (one : IsNoneUntil (listed_rights list) first end)
      (none : listed_rights list end ≡ None) where
    none_then : IsNoneUntil (listed_rights (remove list at)) first end
    none_then q above below =
        put_elsewhere (listed_rights list) (listed_rights (remove list at)) first None (removed list rise at first there) q (λ e. let no : ⊥ = omega (arith, e, above) in no)
        ∙ one q above below

    no_other : (d : PageRights) → at < length (remove list at) → (get_or (remove list at) at d).page ≡ end → ⊥
    no_other d inside here =
        let shorter : length (remove list at) + 1 ≡ length list = length-remove list at there.inside in
        none_next none (at + 1) d (omega (arith, inside, shorter))
        (sym (same_page (get_or (remove list at) at d) (get_or list (at + 1) d) (get_or-remove_above list at d at (omega arith) there.inside)) ∙ here)

    gap_then : IsGap (remove list at) end at
    gap_then = gap_at_end (remove list at) (remove_rises list rise first at there) first end at (remove_spot list rise first at there) some none_then no_other

    pub moved_on_rises : (was : Rights) → PagesRise (insert (remove list at) at (record { page = end; rights = was }))
    moved_on_rises was = insert_rises (remove list at) (remove_rises list rise first at there) end at was gap_then

    pub moved_on : (before was rights : Rights) → rights ≡ left_before (listed_rights list) before first
        → IsRewritten (listed_rights list) before first end was rights (listed_rights (insert (remove list at) at (record { page = end; rights = was })))
    moved_on before was rights left = record {
      at_first =
          ap (λ (o : Option Rights). unwrap_or o (left_before (listed_rights list) before first))
          (new_elsewhere first apart_too ∙ put_here (listed_rights list) (listed_rights (remove list at)) first None (removed list rise at first there))
          ∙ sym left;
      at_end = λ inside.
          ap (λ (o : Option Rights). unwrap_or o rights) (put_here (listed_rights (remove list at)) new end (Some was) (put_between (remove list at) at end was gap_then))
          ∙ sym (ap (λ (o : Option Rights). unwrap_or o was)
          (sym (put_elsewhere (listed_rights list) (listed_rights (remove list at)) first None (removed list rise at first there) end apart)
          ∙ listed_gap (remove list at) (remove_rises list rise first at there) end at gap_then));
      elsewhere = λ q not_first not_end.
          new_elsewhere q not_end ∙ put_elsewhere (listed_rights list) (listed_rights (remove list at)) first None (removed list rise at first there) q not_first;
    }
      where
        new : ℕ → Option Rights
        new = listed_rights (insert (remove list at) at (record { page = end; rights = was }))

        new_elsewhere : (q : ℕ) → (end ≡ q → ⊥) → listed_rights (insert (remove list at) at (record { page = end; rights = was })) q ≡ listed_rights (remove list at) q
        new_elsewhere q other =
            put_elsewhere (listed_rights (remove list at)) (listed_rights (insert (remove list at) at (record { page = end; rights = was }))) end (Some was)
            (put_between (remove list at) at end was gap_then) q other

  -- ---- the one at the end goes, and one comes at the first page

  module _ (gap : IsGap list first at) (there : StandsAtPage list end at) where
    gap_without : IsGap (remove list at) first at
    gap_without = record {
      inside = let i : at < length list = there.inside in omega (arith, i, shorter);
      front = λ k d low.
          let e : (get_or (remove list at) k d).page ≡ (get_or list k d).page = same_page (get_or (remove list at) k d) (get_or list k d) (get_or-remove_below list at d k low there.inside) in
          let l : (get_or list k d).page < first = gap.front k d low in omega (arith, e, l);
      behind = λ k d up within.
          let e : (get_or (remove list at) k d).page ≡ (get_or list (k + 1) d).page = same_page (get_or (remove list at) k d) (get_or list (k + 1) d) (get_or-remove_above list at d k up there.inside) in
          let l : first < (get_or list (k + 1) d).page = gap.behind (k + 1) d (omega (arith, up)) (omega (arith, within, shorter)) in omega (arith, e, l);
    }
      where
        shorter : length (remove list at) + 1 ≡ length list
        shorter = length-remove list at there.inside

    pub moved_back_rises : (rights : Rights) → PagesRise (insert (remove list at) at (record { page = first; rights = rights }))
    moved_back_rises rights = insert_rises (remove list at) (remove_rises list rise end at there) first at rights gap_without

    pub moved_back : (before was rights : Rights) → listed_rights list end ≡ Some rights
        → IsRewritten (listed_rights list) before first end was rights (listed_rights (insert (remove list at) at (record { page = first; rights = rights })))
    moved_back before was rights was_there = record {
      at_first =
          ap (λ (o : Option Rights). unwrap_or o (left_before (listed_rights list) before first))
          (put_here (listed_rights (remove list at)) (listed_rights (insert (remove list at) at (record { page = first; rights = rights }))) first (Some rights)
          (put_between (remove list at) at first rights gap_without));
      at_end = λ inside.
          ap (λ (o : Option Rights). unwrap_or o rights)
          (new_elsewhere end apart ∙ put_here (listed_rights list) (listed_rights (remove list at)) end None (removed list rise at end there))
          ∙ sym (ap (λ (o : Option Rights). unwrap_or o was) was_there);
      elsewhere = λ q not_first not_end.
          new_elsewhere q not_first ∙ put_elsewhere (listed_rights list) (listed_rights (remove list at)) end None (removed list rise at end there) q not_end;
    }
      where
        new_elsewhere : (q : ℕ) → (first ≡ q → ⊥) → listed_rights (insert (remove list at) at (record { page = first; rights = rights })) q ≡ listed_rights (remove list at) q
        new_elsewhere q other =
            put_elsewhere (listed_rights (remove list at)) (listed_rights (insert (remove list at) at (record { page = first; rights = rights }))) first (Some rights)
            (put_between (remove list at) at first rights gap_without) q other
