-- Places one after the other in the order of their first pages.
use Rattle.std.proofs.Common.{◌≡◌, ℕ, ◌+◌, ◌-◌, ◌<◌, ◌≤◌, Bool, true, false, sym, ap, subst, List, [], ◌∷◌, ◌++◌, ◌∙◌, arith, drop, get_or, inl, inr, length, suc, drop-cons, get_or-drop, length-drop}
use Rattle.std.proofs.lemmas.List.{drop_more}
use Rattle.std.specs.Prelude.{◌⊎◌, ◌||◌, ◌&&◌, filter, max, min, nat_lt}
use Rattle.std.specs.BTreeMap.{is_at}
use Rattle.std.specs.List.Sorted.{IsNonDecreasingBy}
use Rattle.std.proofs.lemmas.Bool.{cases_Bool, false≢true, lt-ltb, or_right}
use Rattle.std.proofs.lemmas.Map.Views.{any-filter_same}
use Rattle.mapdb_fpage.specs.Bounds.{page_limit}
use Rattle.mapdb_lists.specs.OwnPlaces.{AreAligned, own_meets, own_pages, place_cmp, stands}
use Rattle.mapdb_lists.specs.declared.own_place.OwnPlace.{OwnPlace}
use Rattle.mapdb_lists.proofs.PlaceLemmas.LeastPlaces.{item_stands, stands_more}
use Rattle.mapdb_lists.proofs.PlaceLemmas.Meetings.{meets_below, some_pages}
use Rattle.mapdb_lists.proofs.PlaceLemmas.PlaceLists.{index_of}
use Rattle.mapdb_lists.proofs.PlaceLemmas.PlaceOrder.{exact_own, place_itself}
use Rattle.mapdb_rights.specs.PlaceWalks.{BeginBehind, HasCome}
use Rattle.mapdb_rights.specs.declared.index.place_walk.PlaceWalk.{PlaceWalk}

-- ---- one place more

pub pushed : (places : List OwnPlace) (x p : OwnPlace) → stands (places ++ x ∷ []) p ≡ true → (x ≡ p) ⊎ (stands places p ≡ true)
pushed places x p has = elim (cases_Bool (is_at (place_cmp x) p)) [
  | inl here ↦ inl (exact_own x p here)
  | inr other ↦ inr (ap (λ (b : Bool). b || stands places p) (sym other) ∙ sym (stands_more places x p) ∙ has)
]

pub pushed_old : (places : List OwnPlace) (x p : OwnPlace) → stands places p ≡ true → stands (places ++ x ∷ []) p ≡ true
pushed_old places x p has = stands_more places x p ∙ or_right (is_at (place_cmp x) p) (stands places p) has

pub pushed_new : (places : List OwnPlace) (x : OwnPlace) → stands (places ++ x ∷ []) x ≡ true
pushed_new places x = stands_more places x x ∙ ap (λ (b : Bool). b || stands places x) (place_itself x)

-- the first of those behind an index, or a later one
pub first_or_later : (places : List OwnPlace) (i : ℕ) (d p : OwnPlace) → i < length places → stands (drop i places) p ≡ true
    → (get_or places i d ≡ p) ⊎ (stands (drop (i + 1) places) p ≡ true)
first_or_later places i d p inside has = elim (cases_Bool (is_at (place_cmp p) (get_or places i d))) [
  | inl here ↦ inl (sym (exact_own p (get_or places i d) here))
  | inr other ↦ inr (ap (λ (b : Bool). b || stands (drop (i + 1) places) p) (sym other) ∙ ap (λ (l : List OwnPlace). stands l p) (sym (drop_more places i d inside)) ∙ has)
]

-- ---- in the order of their first pages

-- none of those behind an index begins before the first of them
pub first_least : (places : List OwnPlace) → IsNonDecreasingBy (λ (p : OwnPlace). p.first) places → (i : ℕ) (d p : OwnPlace) → stands (drop i places) p ≡ true
    → (i < length places) × ((get_or places i d).first ≤ p.first)
first_least places ordered i d p has =
    let at = index_of (drop i places) p has in
    let behind : at.index < length (drop i places) = at.inside in
    let long : length (drop i places) ≡ length places - i = length-drop i places in
    let inside : i + at.index < length places = omega arith in
    let same : get_or places (i + at.index) d ≡ p = sym (get_or-drop i places at.index d) ∙ at.here d in
    (omega arith, subst (λ (x : OwnPlace). (get_or places i d).first ≤ x.first) same (ordered i (i + at.index) d (omega arith) inside))

pub first_stands : (places : List OwnPlace) (i : ℕ) (d : OwnPlace) → i < length places → stands (drop i places) (get_or places i d) ≡ true
first_stands places i d inside =
    ap (λ (l : List OwnPlace). stands l (get_or places i d)) (drop-cons places i d inside)
    ∙ ap (λ (b : Bool). b || stands (drop (suc i) places) (get_or places i d)) (place_itself (get_or places i d))

pub first_within : (places : List OwnPlace) → AreAligned places → (i : ℕ) (d : OwnPlace) → i < length places → (get_or places i d).first ≤ page_limit
first_within places aligned i d inside =
    let in_space : (get_or places i d).first < page_limit = (aligned (get_or places i d) (item_stands places i d inside)).in_space in
    omega arith

-- ---- which places hold a page

-- a place meets the pages of its space
pub meets_all : (places : List OwnPlace) → AreAligned places → (p : OwnPlace) → stands places p ≡ true → own_meets p 0 page_limit ≡ true
meets_all places aligned p has =
    let some = some_pages p in
    let first : p.first < page_limit = (aligned p has).in_space in
    lt-ltb (max p.first 0) (min (p.first + own_pages p) page_limit) (omega arith)

-- what meets the pages lasts beyond the first of them
pub meets_lasts : (p : OwnPlace) (page end : ℕ) → own_meets p page end ≡ true → nat_lt page (p.first + own_pages p) ≡ true
meets_lasts p page end h = let both = meets_below p page end h in lt-ltb page (p.first + own_pages p) both.1

-- ---- a walk

-- what was held and lasts beyond the page is held
pub left_behind : (old : List OwnPlace) (page : ℕ) (p : OwnPlace)
    → stands (filter (λ x. nat_lt page (x.first + own_pages x)) old) p ≡ (nat_lt page (p.first + own_pages p) && stands old p)
left_behind old page p =
    any-filter_same (is_at (place_cmp p)) (λ x. nat_lt page (x.first + own_pages x)) (nat_lt page (p.first + own_pages p))
    (λ x same. ap (λ (y : OwnPlace). nat_lt page (y.first + own_pages y)) (sym (exact_own p x same))) old

module _ (places : List OwnPlace) (page : ℕ) where
  -- without those that lie before the page
  pub come_without : (old new : PlaceWalk) → new.held.items ≡ filter (λ x. nat_lt page (x.first + own_pages x)) old.held.items → new.begun ≡ old.begun
      → HasCome places page old → HasCome places page new
  come_without old new left same come = record {
    known = λ p has. come.known p (second (nat_lt page (p.first + own_pages p)) (sym (held_is p) ∙ has));
    all = λ p has meeting. elim (come.all p has meeting) [
      | inl held ↦ inl (held_is p ∙ ap (λ (b : Bool). b && stands old.held.items p) (meets_lasts p page page_limit meeting) ∙ held)
      | inr later ↦ inr (ap (λ n. stands (drop n places) p) same ∙ later)
    ];
  }
    where
      held_is : (p : OwnPlace) → stands new.held.items p ≡ (nat_lt page (p.first + own_pages p) && stands old.held.items p)
      held_is p = ap (λ (l : List OwnPlace). stands l p) left ∙ left_behind old.held.items page p

      second : (a : Bool) {b : Bool} → (a && b) ≡ true → b ≡ true
      second true h = h
      second false h = absurd (false≢true h)

  -- with the next that begins
  pub come_on : (old new : PlaceWalk) (d : OwnPlace) → old.begun < length places → new.held.items ≡ old.held.items ++ get_or places old.begun d ∷ [] → new.begun ≡ old.begun + 1
      → HasCome places page old → HasCome places page new
  come_on old new d inside more next come = record {
    known = λ p has. elim (pushed old.held.items (get_or places old.begun d) p (sym (ap (λ (l : List OwnPlace). stands l p) more) ∙ has)) [
      | inl same ↦ subst (λ (x : OwnPlace). stands places x ≡ true) same (item_stands places old.begun d inside)
      | inr held ↦ come.known p held
    ];
    all = λ p has meeting. elim (come.all p has meeting) [
      | inl held ↦ inl (held_now p (pushed_old old.held.items (get_or places old.begun d) p held))
      | inr later ↦ elim (first_or_later places old.begun d p inside later) [
        | inl same ↦ inl (held_now p (subst (λ (x : OwnPlace). stands (old.held.items ++ get_or places old.begun d ∷ []) x ≡ true) same (pushed_new old.held.items (get_or places old.begun d))))
        | inr behind ↦ inr (ap (λ n. stands (drop n places) p) next ∙ behind)
      ]
    ];
  }
    where
      held_now : (p : OwnPlace) → stands (old.held.items ++ get_or places old.begun d ∷ []) p ≡ true → stands new.held.items p ≡ true
      held_now p has = ap (λ (l : List OwnPlace). stands l p) more ∙ has

  -- where the next one begins behind the page, or there is none
  pub begin_behind : IsNonDecreasingBy (λ (p : OwnPlace). p.first) places → (walk : PlaceWalk) (d : OwnPlace)
      → (walk.begun < length places → page < (get_or places walk.begun d).first) → BeginBehind places page walk
  begin_behind ordered walk d next p has =
      let least = first_least places ordered walk.begun d p has in
      let head : page < (get_or places walk.begun d).first = next least.0 in
      let low = least.1 in
      omega arith
