-- What stands at a page, by the last change up to it.
use Rattle.std.proofs.Common.{◌≡◌, ℕ, zero, suc, ◌-◌, ◌<◌, ◌≤◌, refl, sym, ap, subst, ◌∙◌, arith, inl, inr}
use Rattle.std.specs.Prelude.{◌⊎◌, Option, Some, None}
use Rattle.std.specs.Option.{unwrap_or}
use Rattle.mapdb_lists.specs.declared.changes.Change.{Change}
use Rattle.mapdb_fpage.specs.Bounds.{page_limit}
use Rattle.mapdb_lists.specs.Changes.{IsRewritten, IsStretch, changed, left_before}
use Rattle.mapdb_lists.specs.OwnChanges.{IsLastChange, IsNoneUntil}

-- none up to the page: what stood first
pub changed-none : {V : Type 0} (f : ℕ → Option V) (first : V) (page : ℕ) → ((q : ℕ) → q ≤ page → f q ≡ None) → changed f first page ≡ first
unfolding changed
changed-none f first zero none = ap (λ o. unwrap_or o first) (none zero (omega arith))
changed-none f first (suc page) none =
    ap (λ o. unwrap_or o (changed f first page)) (none (suc page) (omega arith)) ∙ changed-none f first page (λ q up_to. none q (omega arith))

-- from a page on where the same stands, with the same changes behind it, the same stands
pub changed-from : {V : Type 0} (f g : ℕ → Option V) (first other : V) (start page : ℕ) → start ≤ page → changed f first start ≡ changed g other start
    → ((q : ℕ) → start < q → q ≤ page → f q ≡ g q) → changed f first page ≡ changed g other page
unfolding changed
changed-from f g first other start zero below here same = ap (changed f first) (zero_is start below) ∙ here ∙ ap (changed g other) (sym (zero_is start below))
  where
    zero_is : (start : ℕ) → start ≤ zero → zero ≡ start
    zero_is start below = omega arith
changed-from f g first other start (suc page) below here same =
    elim (at_or_before start page below) [
      | inl last ↦ ap (changed f first) last ∙ here ∙ ap (changed g other) (sym last)
      | inr before ↦
          (λ i. unwrap_or (same (suc page) (omega arith) (omega arith) i)
          (changed-from f g first other start page before here (λ q after up_to. same q after (omega arith)) i))
    ]
  where
    at_or_before : (start page : ℕ) → start ≤ suc page → (suc page ≡ start) ⊎ (start ≤ page)
    at_or_before start page below = grind arith

-- at a change, what it leaves
pub changed-here : {V : Type 0} (f : ℕ → Option V) (first change : V) (page : ℕ) → f page ≡ Some change → changed f first page ≡ change
unfolding changed
changed-here f first change zero here = ap (λ o. unwrap_or o first) here
changed-here f first change (suc page) here = ap (λ o. unwrap_or o (changed f first page)) here

-- with no change behind a page, what stands there
pub changed-stays : {V : Type 0} (f : ℕ → Option V) (first : V) (start page : ℕ) → start ≤ page → ((q : ℕ) → start < q → q ≤ page → f q ≡ None) → changed f first page ≡ changed f first start
unfolding changed
changed-stays f first start zero below none = ap (changed f first) (zero_is start below)
  where
    zero_is : (start : ℕ) → start ≤ zero → zero ≡ start
    zero_is start below = omega arith
changed-stays f first start (suc page) below none =
    elim (at_or_before start page below) [
      | inl last ↦ ap (changed f first) last
      | inr before ↦
          ap (λ o. unwrap_or o (changed f first page)) (none (suc page) (omega arith) (omega arith))
          ∙ changed-stays f first start page before (λ q after up_to. none q after (omega arith))
    ]
  where
    at_or_before : (start page : ℕ) → start ≤ suc page → (suc page ≡ start) ⊎ (start ≤ page)
    at_or_before start page below = grind arith

-- the same changes up to a page leave the same
pub changed-same : {V : Type 0} (f g : ℕ → Option V) (first : V) (page : ℕ) → ((q : ℕ) → q ≤ page → f q ≡ g q) → changed f first page ≡ changed g first page
unfolding changed
changed-same f g first zero same = ap (λ o. unwrap_or o first) (same zero (omega arith))
changed-same f g first (suc page) same =
    λ i. unwrap_or (same (suc page) (omega arith) i) (changed-same f g first page (λ q up_to. same q (omega arith)) i)

-- the last change up to a page is what is left there
pub last_left : {V : Type 0} (f : ℕ → Option V) (first : V) (page : ℕ) (last : ℕ × V) → IsLastChange f page last → changed f first page ≡ last.1
last_left f first page last found = changed-stays f first last.0 page found.up_to found.last ∙ changed-here f first last.1 last.0 found.here

-- in front of a page stands what is left at the page before it
pub left_behind : {V : Type 0} (f : ℕ → Option V) (first : V) (page : ℕ) → 0 < page → changed f first (page - 1) ≡ left_before f first page
left_behind f first zero some = let no : ⊥ = omega arith in absurd no
left_behind f first (suc page) some = ap (changed f first) (omega arith)

-- the last change up to a page, with an end up to which there is none, makes a stretch
pub stretch_found : (f : ℕ → Option Change) (first : Change) (page end : ℕ) (last : ℕ × Change) → IsLastChange f page last
    → page < end → end ≤ page_limit → IsNoneUntil f page end → IsStretch f first page (record { change = last.1; end = end })
stretch_found f first page end last found above limit none = record {
  seen = sym (last_left f first page last found);
  above = above;
  limit = limit;
  none = none;
}

pub stretch_first : (f : ℕ → Option Change) (first : Change) (page end : ℕ) → ((q : ℕ) → q ≤ page → f q ≡ None)
    → page < end → end ≤ page_limit → IsNoneUntil f page end → IsStretch f first page (record { change = first; end = end })
stretch_first f first page end found above limit none = record { seen = sym (changed-none f first page found); above = above; limit = limit; none = none }

-- the same changes in front of a page leave the same there
pub left_same : {V : Type 0} (f g : ℕ → Option V) (first : V) (page : ℕ) → ((q : ℕ) → q < page → f q ≡ g q) → left_before f first page ≡ left_before g first page
left_same f g first zero same = refl
left_same f g first (suc page) same = changed-same f g first page (λ q up_to. same q (omega arith))

-- Pages over which one change stood were given another.
module _ {V : Type 0} (f g : ℕ → Option V) (before : V) (first end : ℕ) (was change : V) (given : IsRewritten f before first end was change g)
    (some : first < end) (none : (q : ℕ) → first < q → q < end → f q ≡ None) (known : was ≡ changed f before first) where
  pub given_before : (page : ℕ) → page < first → changed g before page ≡ changed f before page
  given_before page below = changed-same g f before page (λ q up_to. given.elsewhere q (λ e. let no : ⊥ = omega arith in no) (λ e. let no : ⊥ = omega arith in no))

  left_here : (at : ℕ) → at ≡ first → changed g before at ≡ unwrap_or (g at) (left_before f before at)
  unfolding changed
  left_here zero is = refl
  left_here (suc at) is = ap (unwrap_or (g (suc at))) (given_before at (omega arith))

  given_here : changed g before first ≡ change
  given_here = left_here first refl ∙ given.at_first

  pub given_inside : (page : ℕ) → first ≤ page → page < end → changed g before page ≡ change
  given_inside page from below =
      changed-stays g before first page from
      (λ q after up_to. given.elsewhere q (λ e. let no : ⊥ = omega arith in no) (λ e. let no : ⊥ = omega arith in no) ∙ none q after (omega arith))
      ∙ given_here

  ends_same : (at : ℕ) → at ≡ end → end < page_limit → changed g before at ≡ changed f before at
  unfolding changed
  ends_same zero is inside = let no : ⊥ = omega arith in absurd no
  ends_same (suc at) is inside =
      ap (unwrap_or (g (suc at))) (given_inside at (omega arith) (omega arith))
      ∙ subst (λ n. unwrap_or (g n) change ≡ unwrap_or (f n) was) (sym is) (given.at_end inside)
      ∙ ap (unwrap_or (f (suc at))) (known ∙ sym (changed-stays f before first at (omega arith) (λ q after up_to. none q after (omega arith))))

  pub given_behind : (page : ℕ) → end ≤ page → page < page_limit → changed g before page ≡ changed f before page
  given_behind page behind inside =
      changed-from g f before before end page behind (ends_same end refl (omega arith))
      (λ q after up_to. given.elsewhere q (λ e. let no : ⊥ = omega arith in no) (λ e. let no : ⊥ = omega arith in no))
