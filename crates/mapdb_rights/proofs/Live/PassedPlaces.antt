-- One place after the other: what holds of the records of those that were passed.
use Rattle.std.proofs.Common.{◌≡◌, ℕ, ◌<◌, List, true, refl, sym, ap, subst, ◌∙◌, inl, inr}
use Rattle.std.specs.Prelude.{◌⊎◌, None, not}
use Rattle.std.proofs.lemmas.Bool.{and_from, cases_Bool, true≢false}
use Rattle.mapdb_fpage.specs.Bounds.{page_limit}
use Rattle.mapdb_fpage.specs.RightSets.{is_empty}
use Rattle.mapdb_facts.proofs.Lists.SameNames.{same_id_true}
use Rattle.mapdb_facts.specs.Names.{is_root, root}
use Rattle.mapdb_facts.specs.State.{State}
use Rattle.mapdb_facts.specs.declared.names.RecordId.{RecordId}
use Rattle.mapdb_facts.specs.declared.names.Space.{Space}
use Rattle.mapdb_lists.specs.Listing.{listed_for, own_place, owner_places}
use Rattle.mapdb_lists.specs.OwnPlaces.{IsSweptOn, IsSweptTo, ahead, at_start, own_list, own_meets, stands}
use Rattle.mapdb_lists.specs.declared.own_places.NextPlace.{NextPlace}
use Rattle.mapdb_lists.specs.declared.own_place.OwnPlace.{OwnPlace}
use Rattle.mapdb_lists.specs.declared.own_places.OwnPlaces.{OwnPlaces}
use Rattle.mapdb_lists.specs.declared.own_places.Sweep.{Sweep}
use Rattle.mapdb_lists.specs.declared.places.Owner.TheVariants as owners
use Rattle.mapdb_lists.specs.declared.places.Places.{Places}
use Rattle.mapdb_lists.proofs.PlaceLemmas.OwnSweeps.{start_ahead}
use Rattle.mapdb_lists.proofs.PlaceLemmas.OwnersPlaces.{back, there}
use Rattle.mapdb_rights.specs.Among.{is_shown}
use Rattle.mapdb_rights.specs.LivePlaces.{AreLive}
use Rattle.mapdb_rights.specs.HeldPlaces.{place_of}
use Rattle.mapdb_rights.specs.Live.{IsLive}
use Rattle.mapdb_rights.specs.PageRights.{is_record_into}
use Rattle.mapdb_rights.specs.Right.{rights_at}
use Rattle.mapdb_rights.proofs.Live.LiveOrders.{Standing, standing}
use Rattle.mapdb_rights.proofs.Settling.Followed.{listed_into}
use Rattle.mapdb_rights.proofs.Settling.LiveRecords.{of_live}

-- the record of a place of the space is one into it
pub place_into : (S : State) (set : Places) → AreLive S set → (space : Space) (places : List OwnPlace) → owner_places set (owners.Space space) ≡ places
    → (p : OwnPlace) → stands places p ≡ true → is_record_into (S.record_at p.id) space ≡ true
place_into S set lives space places is p held =
    listed_into S set space (listed_for (owners.Space space) p) (of_live S (rights_at S) set lives.listed) (back set (owners.Space space) places is p held) refl

module _ (S : State) (space : Space) (page : ℕ) where
  -- each place that meets the page comes later, or it holds of its record where this has a right
  abbrev pub HoldsPassed : (RecordId → Type 0) → OwnPlaces → ℕ → Sweep → Type 0
  HoldsPassed Of own end sweep = (p : OwnPlace) → stands (own_list own) p ≡ true → own_meets p page end ≡ true
      → (stands (ahead own sweep) p ≡ true) ⊎ (is_shown S space page p.id ≡ true → Of p.id)

  -- at first all come later
  pub none_passed : (Of : RecordId → Type 0) (own : OwnPlaces) (end : ℕ) (sweep : Sweep) → sweep ≡ at_start → HoldsPassed Of own end sweep
  none_passed Of own end sweep start p has meeting = inl (start_ahead own sweep start p has)

  -- one place more
  pub passed_on : (Of Next : RecordId → Type 0) (own : OwnPlaces) (end : ℕ) (sweep : Sweep) (next : NextPlace) → IsSweptTo (own_list own) (ahead own) page end sweep next
      → ((id : RecordId) → Of id → Next id) → (is_shown S space page next.place.id ≡ true → Next next.place.id) → HoldsPassed Of own end sweep → HoldsPassed Next own end next.sweep
  passed_on Of Next own end sweep next swept kept here h p has meeting = elim (h p has meeting) [
    | inr there ↦ inr (λ shown. kept p.id (there shown))
    | inl later ↦ elim (swept.rest p later meeting) [
      | inr behind ↦ inl behind
      | inl one ↦ inr (λ shown. subst (λ (x : OwnPlace). Next x.id) one (here (ap (λ (x : OwnPlace). is_shown S space page x.id) one ∙ shown)))
    ]
  ]

  -- behind the last all were passed
  pub none_ahead : (Of : RecordId → Type 0) (own : OwnPlaces) (end : ℕ) (sweep : Sweep) → IsSweptOn (own_list own) (ahead own) page end sweep None → HoldsPassed Of own end sweep
      → (p : OwnPlace) → stands (own_list own) p ≡ true → own_meets p page end ≡ true → is_shown S space page p.id ≡ true → Of p.id
  none_ahead Of own end sweep none h p has meeting shown = elim (h p has meeting) [
    | inl later ↦ absurd (true≢false (sym meeting ∙ none p later))
    | inr there ↦ there shown
  ]

  -- where all were passed, it holds of all that have a right at the page
  pub passed_all : (set : Places) (lives : AreLive S set) (places : List OwnPlace) → owner_places set (owners.Space space) ≡ places → (Of : RecordId → Type 0) (end : ℕ)
      → (page < page_limit → page < end) → (IsLive S space page root → Of root)
      → ((p : OwnPlace) → stands places p ≡ true → own_meets p page end ≡ true → is_shown S space page p.id ≡ true → Of p.id) → (id : RecordId) → IsLive S space page id → Of id
  passed_all set lives places are Of end more top told id live =
      elim (cases_Bool (is_root id)) [
        | inl is ↦
            let e : id ≡ root = same_id_true id root is in
            subst Of (sym e) (top (subst (λ (i : RecordId). IsLive S space page i) e live))
        | inr other ↦ of_record (standing S set space page lives.named lives.formed lives id end other more live)
      ]
    where
      of_record : Standing S set space page lives.named lives.formed lives id end → Of id
      of_record at =
          let name : at.r.id ≡ id = lives.named id at.r at.at in
          subst Of name
          (told (own_place (place_of at.r)) (there set (owners.Space space) places are (place_of at.r) at.owned at.has) at.meeting
          (ap (λ (i : RecordId). is_shown S space page i) name ∙ and_from (is_record_into (S.record_at id) space) (not (is_empty (rights_at S id page))) at.into (ap not live.has_some)))
