-- What changes stand for after pages were given one.
use Rattle.std.proofs.Common.{◌≡◌, ℕ, ◌<◌, ◌≤◌, true, false, sym, ◌∙◌, arith, inl, inr, subst}
use Rattle.std.specs.Prelude.{◌&&◌, Some, None, nat_le, nat_lt, if◌then◌else◌}
use Rattle.std.proofs.lemmas.Bool.{and_from, and_left, and_right, cases_Bool, cond-false, cond-true, lt-ltb, ltb-true}
use Rattle.mapdb_fpage.specs.Bounds.{page_limit}
use Rattle.mapdb_fpage.specs.Place.{is_page}
use Rattle.mapdb_lists.specs.declared.changes.Change.{Change}
use Rattle.mapdb_lists.specs.declared.changes.Stretch.{Stretch}
use Rattle.mapdb_facts.specs.Exact.{exact_id}
use Rattle.mapdb_facts.specs.Names.{same_id}
use Rattle.mapdb_facts.specs.declared.names.RecordId.{RecordId}
use Rattle.mapdb_lists.specs.Changes.{covers, PageChanges, IsRewritten, IsStretch, at_first, past_the_end, seen_in, change_at, changed}
use Rattle.mapdb_lists.proofs.ChangeLemmas.LastChanges.{changed-here, changed-same, changed-stays, given_before, given_behind, given_inside}
use Rattle.mapdb_facts.proofs.Lists.SameNames.{same_id_itself}

-- what is seen is alike where the last changes are
pub seen_alike : (old new : PageChanges) (other : RecordId) (page : ℕ)
    → (is_page page ≡ true → changed (change_at new other) (at_first other) page ≡ changed (change_at old other) (at_first other) page)
    → seen_in new other page ≡ seen_in old other page
seen_alike old new other page same =
    elim (cases_Bool (is_page page)) [
      | inl inside ↦
          cond-true (is_page page) (changed (change_at new other) (at_first other) page) past_the_end inside ∙ same inside
          ∙ sym (cond-true (is_page page) (changed (change_at old other) (at_first other) page) past_the_end inside)
      | inr out ↦
          cond-false (is_page page) (changed (change_at new other) (at_first other) page) past_the_end out
          ∙ sym (cond-false (is_page page) (changed (change_at old other) (at_first other) page) past_the_end out)
    ]

-- what one change leaves at the pages behind it
pub seen_stays : (changes : PageChanges) (id : RecordId) (first page : ℕ) → first ≤ page → page < page_limit
    → ((q : ℕ) → first < q → q ≤ page → change_at changes id q ≡ None) → seen_in changes id page ≡ seen_in changes id first
seen_stays changes id first page below inside none =
    cond-true (is_page page) (changed (change_at changes id) (at_first id) page) past_the_end (lt-ltb page page_limit inside)
    ∙ changed-stays (change_at changes id) (at_first id) first page below none
    ∙ sym (cond-true (is_page first) (changed (change_at changes id) (at_first id) first) past_the_end (lt-ltb first page_limit (omega arith)))

pub seen_here : (changes : PageChanges) (id : RecordId) (page : ℕ) (change : Change) → page < page_limit → change_at changes id page ≡ Some change → seen_in changes id page ≡ change
seen_here changes id page change inside here =
    cond-true (is_page page) (changed (change_at changes id) (at_first id) page) past_the_end (lt-ltb page page_limit inside)
    ∙ changed-here (change_at changes id) (at_first id) change page here

-- over a stretch the same is seen
pub stretch_seen : (changes : PageChanges) (id : RecordId) (page : ℕ) (stretch : Stretch) → IsStretch (change_at changes id) (at_first id) page stretch
    → (q : ℕ) → page ≤ q → q < stretch.end → seen_in changes id q ≡ stretch.change
stretch_seen changes id page stretch h q from before =
    let limit : stretch.end ≤ page_limit = h.limit in
    seen_stays changes id page q from (omega arith) (λ p after up_to. h.none p after (omega arith))
    ∙ cond-true (is_page page) (changed (change_at changes id) (at_first id) page) past_the_end (lt-ltb page page_limit (omega arith))
    ∙ sym h.seen

-- pages of one record were given a change, and those of the others stay
pub record IsWritten (old : PageChanges) (id : RecordId) (first end : ℕ) (was change : Change) (new : PageChanges) : Type 0 where
  pub own : IsRewritten (change_at old id) (at_first id) first end was change (change_at new id)
  pub others : (other : RecordId) (page : ℕ) → same_id id other ≡ false → change_at new other page ≡ change_at old other page

-- Pages over which one change stood are given another.
module _ (old new : PageChanges) (id : RecordId) (first end : ℕ) (was change : Change) (written : IsWritten old id first end was change new)
    (some : first < end) (limit : end ≤ page_limit) (none : (q : ℕ) → first < q → q < end → change_at old id q ≡ None) (known : was ≡ seen_in old id first) where
  stood : was ≡ changed (change_at old id) (at_first id) first
  stood = known ∙ cond-true (is_page first) (changed (change_at old id) (at_first id) first) past_the_end (lt-ltb first page_limit (omega arith))

  abbrev Given : RecordId → ℕ → Type 0
  Given other page = seen_in new other page ≡ (if covers id first end other page then change else seen_in old other page)

  not_covered : (other : RecordId) (page : ℕ) → covers id first end other page ≡ false → seen_in new other page ≡ seen_in old other page → Given other page
  not_covered other page out same = same ∙ sym (cond-false (covers id first end other page) change (seen_in old other page) out)

  seen_before : (page : ℕ) → page < first → seen_in new id page ≡ seen_in old id page
  seen_before page before =
      seen_alike old new id page (λ _. given_before (change_at old id) (change_at new id) (at_first id) first end was change written.own some none stood page before)

  seen_inside : (page : ℕ) → first ≤ page → page < end → seen_in new id page ≡ change
  seen_inside page from before =
      cond-true (is_page page) (changed (change_at new id) (at_first id) page) past_the_end (lt-ltb page page_limit (omega arith))
      ∙ given_inside (change_at old id) (change_at new id) (at_first id) first end was change written.own some none stood page from before

  seen_behind : (page : ℕ) → end ≤ page → seen_in new id page ≡ seen_in old id page
  seen_behind page behind =
      seen_alike old new id page (λ inside.
      given_behind (change_at old id) (change_at new id) (at_first id) first end was change written.own some none stood page behind (ltb-true page page_limit inside))

  given_of_record : (page : ℕ) → Given id page
  given_of_record page =
      elim (cases_Bool (nat_le first page)) [
        | inr before ↦
            not_covered id page (and_right (same_id id id) (nat_le first page && nat_lt page end) (and_left (nat_le first page) (nat_lt page end) before))
            (seen_before page (not_from first page before))
        | inl from ↦ elim (cases_Bool (nat_lt page end)) [
          | inl inside ↦
              seen_inside page (is_from first page from) (ltb-true page end inside)
              ∙ sym (cond-true (covers id first end id page) change (seen_in old id page)
              (and_from (same_id id id) (nat_le first page && nat_lt page end) (same_id_itself id) (and_from (nat_le first page) (nat_lt page end) from inside)))
          | inr behind ↦
              not_covered id page (and_right (same_id id id) (nat_le first page && nat_lt page end) (and_right (nat_le first page) (nat_lt page end) behind))
              (seen_behind page (not_before page end behind))
        ]
      ]
    where
      not_before : (a b : ℕ) → nat_lt a b ≡ false → b ≤ a
      not_before a b h = grind (arith, Rattle.std.proofs.lemmas.Grind.common_steps)

      not_from : (a b : ℕ) → nat_le a b ≡ false → b < a
      not_from a b h = grind (arith, Rattle.std.proofs.lemmas.Grind.common_steps)

      is_from : (a b : ℕ) → nat_le a b ≡ true → a ≤ b
      is_from a b h = grind (arith, Rattle.std.proofs.lemmas.Grind.common_steps)

  other_record : (other : RecordId) (page : ℕ) → same_id id other ≡ false → seen_in new other page ≡ seen_in old other page
  other_record other page apart =
      seen_alike old new other page (λ _. changed-same (change_at new other) (change_at old other) (at_first other) page
      (λ q _. written.others other q apart))

  pub given_everywhere : (other : RecordId) (page : ℕ) → Given other page
  given_everywhere other page =
      elim (cases_Bool (same_id id other)) [
        | inr apart ↦ not_covered other page (and_left (same_id id other) (nat_le first page && nat_lt page end) apart) (other_record other page apart)
        | inl same ↦ subst (λ (o : RecordId). Given o page) (exact_id id other same) (given_of_record page)
      ]
