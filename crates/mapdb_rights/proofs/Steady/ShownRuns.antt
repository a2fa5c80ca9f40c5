-- One place after the other: how far all records of a space go on.
use Rattle.std.proofs.Common.{◌≡◌, ℕ, ◌+◌, ◌<◌, ◌≤◌, List, [], true, false, sym, ap, subst, ◌∙◌, arith, inl, inr}
use Rattle.std.specs.Prelude.{◌⊎◌, None, Some, max, min}
use Rattle.std.proofs.lemmas.Bool.{cases_Bool, cond-true, lt-ltb, ltb-true, true≢false}
use Rattle.mapdb_fpage.proofs.Meets.{holds_range}
use Rattle.mapdb_fpage.specs.Place.{holds}
use Rattle.mapdb_fpage.specs.RightSets.{is_empty}
use Rattle.mapdb_facts.proofs.Lists.SameNames.{same_id_true, same_space_true}
use Rattle.mapdb_facts.specs.Looking.{Holds}
use Rattle.mapdb_facts.specs.Merging.{IsNamed}
use Rattle.mapdb_facts.specs.Names.{is_first_space, is_root, root, same_space}
use Rattle.mapdb_facts.specs.State.{State}
use Rattle.mapdb_facts.specs.declared.names.RecordId.{RecordId}
use Rattle.mapdb_facts.specs.declared.names.Space.{Space}
use Rattle.mapdb_facts.specs.declared.operations.Record.{Record}
use Rattle.mapdb_lists.specs.Changes.{Cached}
use Rattle.mapdb_lists.specs.Listing.{own_place, owner_places}
use Rattle.mapdb_lists.specs.OwnPlaces.{IsSweptOn, IsSweptTo, ahead, at_start, own_list, own_meets, own_pages, stands}
use Rattle.mapdb_lists.specs.declared.own_places.NextPlace.{NextPlace}
use Rattle.mapdb_lists.specs.declared.own_place.OwnPlace.{OwnPlace}
use Rattle.mapdb_lists.specs.declared.own_places.OwnPlaces.{OwnPlaces}
use Rattle.mapdb_lists.specs.declared.own_places.Sweep.{Sweep}
use Rattle.mapdb_lists.specs.declared.places.Owner.TheVariants as owners
use Rattle.mapdb_lists.proofs.PlaceLemmas.OwnSweeps.{start_ahead}
use Rattle.mapdb_lists.proofs.PlaceLemmas.OwnersPlaces.{there}
use Rattle.mapdb_lists.specs.declared.places.Places.{Places}
use Rattle.mapdb_rights.specs.Caching.{AreRights}
use Rattle.mapdb_rights.specs.LivePlaces.{AreLive, HasSome}
use Rattle.mapdb_rights.specs.HeldPlaces.{place_of}
use Rattle.mapdb_rights.specs.Live.{ShowUntil, ShowsOn}
use Rattle.mapdb_rights.specs.PageRights.{is_record_into}
use Rattle.mapdb_rights.specs.Right.{rights_at}
use Rattle.mapdb_rights.proofs.Rights.FramesOn.{shows_on}
use Rattle.mapdb_rights.proofs.Live.LiveRecords.{into_held}
use Rattle.mapdb_rights.proofs.Settling.Ended.{rights_in_place}
use Rattle.mapdb_facts.proofs.Maps.CutRuns.{both_empty}

-- what meets fewer pages meets more
pub meets_more : (p : OwnPlace) (page least end : ℕ) → least ≤ end → own_meets p page least ≡ true → own_meets p page end ≡ true
meets_more p page least end fewer h =
    let less : max p.first page < min (p.first + own_pages p) least = ltb-true (max p.first page) (min (p.first + own_pages p) least) h in
    lt-ltb (max p.first page) (min (p.first + own_pages p) end) (omega arith)

-- a place that holds one of the pages meets them
meets_holding : (r : Record) (page end q : ℕ) → holds r.place q ≡ true → page ≤ q → q < end → own_meets (own_place (place_of r)) page end ≡ true
meets_holding r page end q inside low before =
    let range = holds_range r.place q inside in
    let from = range.0 in
    let high : q < r.place.first_page + own_pages (own_place (place_of r)) = range.1 in
    lt-ltb (max r.place.first_page page) (min (r.place.first_page + own_pages (own_place (place_of r))) end) (omega arith)

module _ (set : Places) (space : Space) (cached : Cached) (page : ℕ) where
  -- what is cached of a name stays up to the end
  abbrev pub Stays : RecordId → ℕ → Type 0
  Stays id end = (q : ℕ) → page ≤ q → q < end → cached id q ≡ cached id page

  -- each place that meets the pages comes later, or what is cached of its record stays
  abbrev pub Passed : OwnPlaces → Sweep → ℕ → Type 0
  Passed own sweep end = (p : OwnPlace) → stands (own_list own) p ≡ true → own_meets p page end ≡ true
      → (stands (ahead own sweep) p ≡ true) ⊎ Stays p.id end

  pub passed_none : (own : OwnPlaces) (sweep : Sweep) (end : ℕ) → sweep ≡ at_start → Passed own sweep end
  passed_none own sweep end start p has meeting = inl (start_ahead own sweep start p has)

  pub passed_next : (own : OwnPlaces) (sweep : Sweep) (next : NextPlace) (end until least : ℕ) → least ≤ end → least ≤ until
      → IsSweptTo (own_list own) (ahead own) page end sweep next → (own_meets next.place page until ≡ true → Stays next.place.id until)
      → Passed own sweep end → Passed own next.sweep least
  passed_next own sweep next end until least fewer up_to swept here h p has meeting =
      elim (h p has (meets_more p page least end fewer meeting)) [
        | inr stays ↦ inr (λ q low less. stays q low (omega arith))
        | inl later ↦ elim (swept.rest p later (meets_more p page least end fewer meeting)) [
          | inr behind ↦ inl behind
          | inl same ↦
              let at_next : own_meets next.place page least ≡ true = ap (λ (x : OwnPlace). own_meets x page least) same ∙ meeting in
              inr (λ q low less. subst (λ (x : OwnPlace). cached x.id q ≡ cached x.id page) same (here (meets_more next.place page least until up_to at_next) q low (omega arith)))
        ]
      ]

  module _ (S : State) (named : IsNamed S) (lives : AreLive S set) (rights : AreRights S cached) (end : ℕ) where
    stays_shows : (id : RecordId) → Stays id end → (count : ℕ) → page + count < end → ShowsOn S id page count
    stays_shows id h count before = shows_on S id page count (sym (rights id (page + count)) ∙ h (page + count) (omega arith) before ∙ rights id page)

    -- where what is cached of the record of each place that meets the pages stays
    pub all_show : (places : List OwnPlace) → owner_places set (owners.Space space) ≡ places → (is_first_space space ≡ true → Stays root end)
        → ((p : OwnPlace) → stands places p ≡ true → own_meets p page end ≡ true → Stays p.id end) → ShowUntil S space page end
    all_show places are first h id into =
        elim (cases_Bool (is_root id)) [
          | inl top ↦
              let e : id ≡ root = same_id_true id root top in
              let here : is_first_space space ≡ true = sym (cond-true (is_root id) (is_first_space space) (is_record_into (S.record_at id) space) top) ∙ into in
              stays_shows id (subst (λ (i : RecordId). Stays i end) (sym e) (first here))
          | inr other ↦ of_held other (into_held S space id other into)
        ]
      where
        of_held : is_root id ≡ false → ((r : Record) × (S.record_at id ≡ Some r) × (same_space r.space space ≡ true)) → (count : ℕ) → page + count < end → ShowsOn S id page count
        of_held other (r, at, in_space) count before =
            elim (cases_Bool (is_empty (rights_at S id page))) [
              | inr some ↦ listed_shows (page, some) page (omega arith) (omega arith) some
              | inl none ↦ elim (cases_Bool (is_empty (rights_at S id (page + count)))) [
                | inr some ↦ listed_shows (page + count, some) (page + count) (omega arith) before some
                | inl gone ↦ shows_on S id page count (both_empty (rights_at S id (page + count)) (rights_at S id page) gone none)
              ]
            ]
          where
            held : Holds S r
            held = subst (λ (i : RecordId). S.record_at i ≡ Some r) (sym (named id r at)) at

            owned : (place_of r).owner ≡ owners.Space space
            owned = ap owners.Space (same_space_true r.space space in_space)

            -- a record with a right at one of the pages is listed, and meets them
            listed_shows : HasSome (rights_at S id) → (q : ℕ) → page ≤ q → q < end → is_empty (rights_at S id q) ≡ false → ShowsOn S id page count
            listed_shows has q low high some =
                let there_is = lives.listed.places r held (subst (λ (i : RecordId). HasSome (rights_at S i)) (sym (named id r at)) has) in
                let inside : holds r.place q ≡ true = rights_in_place S id r q other at some in
                stays_shows id (subst (λ (i : RecordId). Stays i end) (named id r at)
                (h (own_place (place_of r)) (there set (owners.Space space) places are (place_of r) owned there_is) (meets_holding r page end q inside low high)))
                count before

    -- behind the last place all were passed
    pub passed_all : (own : OwnPlaces) → owner_places set (owners.Space space) ≡ own_list own → (sweep : Sweep) → (is_first_space space ≡ true → Stays root end)
        → IsSweptOn (own_list own) (ahead own) page end sweep None → Passed own sweep end → ShowUntil S space page end
    passed_all own are sweep first none h = all_show (own_list own) are first (λ p has meeting. elim (h p has meeting) [
      | inl later ↦ absurd (true≢false (sym meeting ∙ none p later))
      | inr stays ↦ stays
    ])

    -- where the space has no places
    pub none_there : owner_places set (owners.Space space) ≡ [] → (is_first_space space ≡ true → Stays root end) → ShowUntil S space page end
    none_there are first = all_show [] are first (λ p has meeting. absurd (true≢false (sym has)))
