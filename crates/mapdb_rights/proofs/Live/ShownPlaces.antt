-- Places that are gone through from a page on: those that hold it, and those that begin behind it.
use Rattle.std.proofs.Common.{◌≡◌, ℕ, ◌<◌, ◌≤◌, true, false, refl, sym, ap, subst, ◌∙◌, arith, inl, inr}
use Rattle.std.specs.Prelude.{not}
use Rattle.std.proofs.lemmas.Bool.{and_from, cases_Bool, cond-false, cond-true}
use Rattle.mapdb_fpage.proofs.Meets.{holds_range}
use Rattle.mapdb_fpage.specs.Place.{holds}
use Rattle.mapdb_fpage.specs.RightSets.{is_empty}
use Rattle.mapdb_facts.specs.Looking.{Holds}
use Rattle.mapdb_facts.specs.State.{State}
use Rattle.mapdb_facts.specs.declared.names.RecordId.{RecordId}
use Rattle.mapdb_facts.specs.declared.names.Space.{Space}
use Rattle.mapdb_facts.specs.declared.operations.Record.{Record}
use Rattle.mapdb_lists.specs.Changes.{IsStretch, PageChanges, at_first, cached_in, change_at, seen_in}
use Rattle.mapdb_lists.specs.Listing.{is_listed, listed_for}
use Rattle.mapdb_lists.specs.declared.changes.Change.{Change}
use Rattle.mapdb_lists.specs.declared.changes.Stretch.{Stretch}
use Rattle.mapdb_lists.specs.declared.own_place.OwnPlace.{OwnPlace}
use Rattle.mapdb_lists.specs.declared.places.Listed.{Listed}
use Rattle.mapdb_lists.specs.declared.places.Owner.TheVariants as owners
use Rattle.mapdb_lists.specs.declared.places.Places.{Places}
use Rattle.mapdb_lists.proofs.ChangeLemmas.Writing.{stretch_seen}
use Rattle.mapdb_rights.specs.Among.{is_shown}
use Rattle.mapdb_rights.specs.Caching.{AreRights}
use Rattle.mapdb_rights.specs.First.{first_where, first_with}
use Rattle.mapdb_rights.specs.HeldPlaces.{place_of}
use Rattle.mapdb_rights.specs.LivePlaces.{AreLive}
use Rattle.mapdb_rights.specs.PageRights.{is_record_into}
use Rattle.mapdb_rights.specs.Right.{rights_at}
use Rattle.mapdb_rights.specs.declared.index.first_records.First.{First}
use Rattle.mapdb_rights.proofs.Live.LiveOrders.{shown_live}
use Rattle.mapdb_rights.proofs.Live.LiveRecords.{not_root}
use Rattle.mapdb_rights.proofs.Settling.Ended.{rights_in_place}
use Rattle.mapdb_rights.proofs.Settling.Followed.{listed_into}
use Rattle.mapdb_rights.proofs.Settling.LiveRecords.{of_live}

-- over a stretch the cached rights stay
pub stretch_stays : (changes : PageChanges) (id : RecordId) (page : ℕ) (stretch : Stretch) → IsStretch (change_at changes id) (at_first id) page stretch
    → (q : ℕ) → page ≤ q → q < stretch.end → cached_in changes id q ≡ cached_in changes id page
stretch_stays changes id page stretch h q from before =
    ap (λ (x : Change). x.rights) (stretch_seen changes id page stretch h q from before ∙ sym (stretch_seen changes id page stretch h page (omega arith) h.above))

module _ (S : State) (set : Places) (lives : AreLive S set) (space : Space) (page : ℕ) (p : OwnPlace) (listed : is_listed set (listed_for (owners.Space space) p) ≡ true) where
  -- its record is one into the space
  pub place_is_into : is_record_into (S.record_at p.id) space ≡ true
  place_is_into = listed_into S set space (listed_for (owners.Space space) p) (of_live S (rights_at S) set lives.listed) listed refl

  -- where it begins behind the page, its record has no right there
  pub not_begun : page < p.first → is_shown S space page p.id ≡ false
  not_begun behind = elim (cases_Bool (is_shown S space page p.id)) [
    | inr none ↦ none
    | inl shown ↦ let one = lives.listed.only (listed_for (owners.Space space) p) listed in absurd (by one.r one.held one.is shown)
  ]
    where
      by : (r : Record) → Holds S r → listed_for (owners.Space space) p ≡ place_of r → is_shown S space page p.id ≡ true → ⊥
      by r held is shown =
          let first : p.first ≡ r.place.first_page = ap (λ (e : Listed). e.first) is in
          let live = shown_live S set space page lives.named lives.formed lives r.id (subst (λ (i : RecordId). is_shown S space page i ≡ true) (ap (λ (e : Listed). e.id) is) shown) in
          let inside : holds r.place page ≡ true = rights_in_place S r.id r page (not_root r (lives.formed r held)) held live.has_some in
          let low : r.place.first_page ≤ page = (holds_range r.place page inside).0 in
          omega (arith, first, low, behind)

  module _ (changes : PageChanges) (found : First) where
    -- then what was found stays
    pub found_stays : page < p.first → found ≡ first_where (is_shown S space page p.id) p.id (seen_in changes p.id page) found
    found_stays behind = sym (cond-false (is_shown S space page p.id) (first_with p.id (seen_in changes p.id page) found) found (not_begun behind))

    -- where something stands at the page, its record has a right there
    pub found_with : (stretch : Stretch) → AreRights S (cached_in changes) → IsStretch (change_at changes p.id) (at_first p.id) page stretch → is_empty stretch.change.rights ≡ false
        → first_with p.id stretch.change found ≡ first_where (is_shown S space page p.id) p.id (seen_in changes p.id page) found
    found_with stretch rights h some =
        let seen : seen_in changes p.id page ≡ stretch.change = stretch_seen changes p.id page stretch h page (omega arith) h.above in
        let shown : is_shown S space page p.id ≡ true =
        and_from (is_record_into (S.record_at p.id) space) (not (is_empty (rights_at S p.id page))) place_is_into
        (ap not (ap is_empty (sym (rights p.id page) ∙ ap (λ (x : Change). x.rights) seen) ∙ some)) in
        sym (cond-true (is_shown S space page p.id) (first_with p.id (seen_in changes p.id page) found) found shown ∙ ap (λ (x : Change). first_with p.id x found) seen)
