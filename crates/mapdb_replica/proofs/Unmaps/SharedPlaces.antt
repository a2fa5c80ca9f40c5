-- What places share, and where names have places.
use Rattle.std.proofs.Common.{◌≡◌, ℕ, ◌+◌, ◌-◌, ◌<◌, ◌≤◌, ◌^◌, Bool, true, false, Some, refl, sym, ap, subst, ◌∙◌, List, inl, inr, arith}
use Rattle.std.specs.Prelude.{◌⊎◌, ◌&&◌, nat_le, Option, None, if◌then◌else◌}
use Rattle.std.proofs.lemmas.Bool.{and_parts, and_from, leb-true, ltb-true, cases_Bool, cond-true, cond-false, false≢true}
use Rattle.std.proofs.lemmas.Bool.Decides.{nat_tests}
use Rattle.std.proofs.Math.Pow.{pow_pos}
use Rattle.mapdb_fpage.proofs.Booleans.{same_test}
use Rattle.mapdb_fpage.proofs.Meets.{holds_from, holds_range}
use Rattle.mapdb_fpage.proofs.Parts.{has_first, meet_is_exact}
use Rattle.mapdb_fpage.specs.Bounds.{page_limit}
use Rattle.mapdb_fpage.specs.Place.{IsPlace, IsWithin, Place, held_by, holds, is_page, meet, moved, page_total, whole}
use Rattle.mapdb_facts.specs.Names.{is_root}
use Rattle.mapdb_facts.specs.State.{State, state_of}
use Rattle.mapdb_facts.specs.declared.names.RecordId.{RecordId}
use Rattle.mapdb_facts.specs.declared.operations.Op.{Op}
use Rattle.mapdb_facts.specs.declared.operations.Record.{Record}
use Rattle.mapdb_rights.specs.PageRights.{lies_in, lies_in_record}
use Rattle.mapdb_replica.proofs.Maps.HolderLists.{place_at, place_of}
use Rattle.mapdb_replica.proofs.Copies.OpForms.{IsFormed, IsKnown}

-- the page of the source that this page of the target stands for
abbrev pub number_behind : Place → Place → ℕ → ℕ
number_behind source target page = source.first_page + (page - target.first_page)

pub within_holds : (a b : Place) → IsWithin a b → (page : ℕ) → holds a page ≡ true → holds b page ≡ true
within_holds a b within page h =
    let range = holds_range a page h in
    holds_from b page (omega (arith, within.low)) (omega (arith, within.high))

within_from : (a b : Place) → a.order ≤ b.order → ((page : ℕ) → holds a page ≡ true → holds b page ≡ true) → IsWithin a b
within_from a b le each =
    let some : 0 < page_total a = pow_pos (a.order - 12) in
    let first = holds_range b a.first_page (each a.first_page (has_first a)) in
    let last = holds_range b (a.first_page + page_total a - 1)
    (each (a.first_page + page_total a - 1) (holds_from a (a.first_page + page_total a - 1) (omega arith) (omega arith))) in
    record { low = first.0; high = omega arith; size = le }

-- what two places share is a place, and lies in both
pub record IsShared (a b c : Place) : Type 0 where
  pub place : IsPlace c
  pub left : IsWithin c a
  pub right : IsWithin c b
  pub both : (page : ℕ) → holds c page ≡ (holds a page && holds b page)

same_place : (a b : Place) → Some a ≡ Some b → a ≡ b
same_place a b e = cc

no_place : (a : Place) → None ≡ Some a → ⊥
no_place a e = cc

if_some : (u : Bool) (a c : Place) → (if u then Some a else None) ≡ Some c → a ≡ c
if_some true a c e = same_place a c e
if_some false a c e = absurd (no_place c e)

meet_one : (a b c : Place) (t : Bool) → nat_le a.order b.order ≡ t
    → (if t then (if holds b a.first_page then Some a else None) else (if holds a b.first_page then Some b else None)) ≡ Some c
    → ((a ≡ c) × (a.order ≤ b.order)) ⊎ ((b ≡ c) × (b.order ≤ a.order))
meet_one a b c true h e = inl (if_some (holds b a.first_page) a c e, leb-true a.order b.order h)
meet_one a b c false h e = inr (if_some (holds a b.first_page) b c e, grind (arith, nat_tests))

pub shared : (a b c : Place) → IsPlace a → IsPlace b → meet a b ≡ Some c → IsShared a b c
shared a b c place_a place_b e =
    let both : ((page : ℕ) → holds c page ≡ (holds a page && holds b page)) = λ page. ap (λ (o : Option Place). held_by o page) (sym e)
    ∙ meet_is_exact a b place_a place_b page in
    let in_a : ((page : ℕ) → holds c page ≡ true → holds a page ≡ true) =
    λ page h. (and_parts (holds a page) (holds b page) (sym (both page) ∙ h)).0 in
    let in_b : ((page : ℕ) → holds c page ≡ true → holds b page ≡ true) =
    λ page h. (and_parts (holds a page) (holds b page) (sym (both page) ∙ h)).1 in
    elim (meet_one a b c (nat_le a.order b.order) refl e) [
      | inl is ↦ record {
        place = subst IsPlace is.0 place_a;
        left = within_from c a (subst (λ (x : Place). x.order ≤ a.order) is.0 (omega arith)) in_a;
        right = within_from c b (subst (λ (x : Place). x.order ≤ b.order) is.0 is.1) in_b;
        both = both;
      }
      | inr is ↦ record {
        place = subst IsPlace is.0 place_b;
        left = within_from c a (subst (λ (x : Place). x.order ≤ a.order) is.0 is.1) in_a;
        right = within_from c b (subst (λ (x : Place). x.order ≤ b.order) is.0 (omega arith)) in_b;
        both = both;
      }
    ]

-- where both have a page, they share a place
pub share : (a b : Place) → IsPlace a → IsPlace b → (page : ℕ) → holds a page ≡ true → holds b page ≡ true
    → (c : Place) × (meet a b ≡ Some c) × IsShared a b c × (holds c page ≡ true)
share a b place_a place_b page in_a in_b = found (meet a b) refl
  where
    found : (o : Option Place) → meet a b ≡ o → (c : Place) × (meet a b ≡ Some c) × IsShared a b c × (holds c page ≡ true)
    found None e = absurd (false≢true (ap (λ (o : Option Place). held_by o page) (sym e) ∙ meet_is_exact a b place_a place_b page
        ∙ and_from (holds a page) (holds b page) in_a in_b))
    found (Some c) e = (
      c,
      e,
      shared a b c place_a place_b e,
      (shared a b c place_a place_b e).both page
          ∙ and_from (holds a page) (holds b page) in_a in_b,
    )

-- The corresponding part of the target has the target's pages that stand for the part.
pub moved_holds : (s t part : Place) → IsWithin part s → s.order ≡ t.order → (page : ℕ)
    → holds (moved s t part) page ≡ (holds t page && holds part (number_behind s t page))
moved_holds s t part within size page =
    let total : page_total s ≡ page_total t = ap (λ n. 2 ^ (n - 12)) size in
    same_test (holds (moved s t part) page) (holds t page && holds part (number_behind s t page))
    (λ h. let range = holds_range (moved s t part) page h in
    and_from (holds t page) (holds part (number_behind s t page))
    (holds_from t page (omega (arith, within.low, within.high)) (omega (arith, within.low, within.high)))
    (holds_from part (number_behind s t page) (omega (arith, within.low, within.high)) (omega (arith, within.low, within.high))))
    (λ h. let parts = and_parts (holds t page) (holds part (number_behind s t page)) h in
    let range = holds_range t page parts.0 in
    let behind = holds_range part (number_behind s t page) parts.1 in
    holds_from (moved s t part) page (omega (arith, within.low, within.high)) (omega (arith, within.low, within.high)))

-- the whole space
pub whole_place : IsPlace whole
whole_place = record { at_least_a_page = omega arith; at_most_all = omega arith; aligned = refl; in_space = omega arith }

pub whole_holds : (page : ℕ) → is_page page ≡ true → holds whole page ≡ true
whole_holds page h = let below : page < page_limit = ltb-true page page_limit h in holds_from whole page (omega arith) (omega arith)

-- where a name has a page, it has a place with that page
pub lies_place : (S : State) (id : RecordId) (page : ℕ) → lies_in S id page ≡ true
    → (place : Place) × (place_at S id ≡ Some place) × (holds place page ≡ true)
lies_place S id page h =
    elim (cases_Bool (is_root id)) [
      | inl top ↦ (
        whole,
        cond-true (is_root id) (Some whole) (place_of (S.record_at id)) top,
        whole_holds page
            (sym (cond-true (is_root id) (is_page page) (lies_in_record (S.record_at id) page) top) ∙ h),
      )
      | inr other ↦
          let found = record_place (S.record_at id) (sym (cond-false (is_root id) (is_page page) (lies_in_record (S.record_at id) page) other) ∙ h) in
          (found.0, cond-false (is_root id) (Some whole) (place_of (S.record_at id)) other ∙ found.1, found.2)
    ]
  where
    record_place : (o : Option Record) → lies_in_record o page ≡ true → (place : Place) × (place_of o ≡ Some place) × (holds place page ≡ true)
    record_place None k = absurd (false≢true k)
    record_place (Some r) k = (r.place, refl, k)

-- a record that holds a page, or the root, has a place
pub place_at-place : (ops : List Op) (id : RecordId) (place : Place) → IsFormed ops → place_at (state_of ops) id ≡ Some place → IsPlace place
place_at-place ops id place kept e =
    elim (cases_Bool (is_root id)) [
      | inl top ↦ subst IsPlace (same_place whole place (sym (cond-true (is_root id) (Some whole) (place_of ((state_of ops).record_at id)) top)
          ∙ e)) whole_place
      | inr other ↦ by_record ((state_of ops).record_at id) refl
          (sym (cond-false (is_root id) (Some whole) (place_of ((state_of ops).record_at id)) other) ∙ e)
    ]
  where
    same_place : (a b : Place) → Some a ≡ Some b → a ≡ b
    same_place a b h = cc

    no_place : (a : Place) → None ≡ Some a → ⊥
    no_place a h = cc

    by_record : (o : Option Record) → (state_of ops).record_at id ≡ o → place_of o ≡ Some place → IsPlace place
    by_record None held h = absurd (no_place place h)
    by_record (Some r) held h = subst IsPlace (same_place r.place place h) (kept.places id r held)

-- a name with a place is known
pub place_at-known : (S : State) (id : RecordId) (place : Place) → place_at S id ≡ Some place → IsKnown S id
place_at-known S id place e =
    elim (cases_Bool (is_root id)) [
      | inl top ↦ inl top
      | inr other ↦ by_record (S.record_at id) refl (sym (cond-false (is_root id) (Some whole) (place_of (S.record_at id)) other) ∙ e)
    ]
  where
    no_place : (a : Place) → None ≡ Some a → ⊥
    no_place a h = cc

    by_record : (o : Option Record) → S.record_at id ≡ o → place_of o ≡ Some place → IsKnown S id
    by_record None held h = absurd (no_place place h)
    by_record (Some r) held h = inr (r, held)
