-- One order after the other is looked at: of each one place holds the page.
use Rattle.std.proofs.Common.{◌≡◌, ℕ, ◌+◌, ◌-◌, ◌/◌, ◌%◌, ◌<◌, ◌≤◌, true, false, refl, sym, ap, subst, ◌∙◌, arith, inl, inr, mul-le-mul_right}
use Rattle.std.specs.Prelude.{◌⊎◌, Option, None, Some, IfSome, min, max, not}
use Rattle.std.specs.Ordering.{is_lt}
use Rattle.std.proofs.lemmas.Bool.{and_from, and_parts, cases_Bool, cond-false, false≢true, lt-ltb, true≢false}
use Rattle.mapdb_fpage.proofs.Meets.{holds_range}
use Rattle.mapdb_fpage.specs.Bounds.{page_limit}
use Rattle.mapdb_fpage.specs.Place.{holds}
use Rattle.mapdb_fpage.specs.RightSets.{is_empty}
use Rattle.mapdb_facts.proofs.Lists.SameNames.{same_space_true}
use Rattle.mapdb_facts.specs.Looking.{Holds}
use Rattle.mapdb_facts.specs.Merging.{IsNamed}
use Rattle.mapdb_facts.specs.Names.{is_first_space, is_root}
use Rattle.mapdb_facts.specs.State.{State}
use Rattle.mapdb_facts.specs.WellFormed.{IsFormedRecord}
use Rattle.mapdb_facts.specs.declared.names.RecordId.{RecordId}
use Rattle.mapdb_facts.specs.declared.names.Space.{Space}
use Rattle.mapdb_facts.specs.declared.operations.Record.{Record}
use Rattle.mapdb_lists.specs.Listing.{IsAligned, IsLeastMeeting, IsNextMeeting, is_above, is_listed, meets, own_place, listed_pages}
use Rattle.mapdb_lists.specs.declared.places.Listed.{Listed}
use Rattle.mapdb_lists.specs.declared.places.Owner.TheVariants as owners
use Rattle.mapdb_lists.proofs.Lists.ListedOrder.{le_parts, lt_parts}
use Rattle.mapdb_lists.proofs.PlaceLemmas.Meetings.{aligned_start, either_way, meets_below, same_pages, some_pages}
use Rattle.mapdb_lists.specs.declared.places.Places.{Places}
use Rattle.mapdb_rights.specs.Among.{IsLeastOf, IsShown, IsShownAt, lesser, under}
use Rattle.mapdb_rights.specs.LivePlaces.{AreLive}
use Rattle.mapdb_rights.specs.HeldPlaces.{place_of}
use Rattle.mapdb_rights.specs.Live.{IsLive, IsLiveFrom}
use Rattle.mapdb_rights.specs.PageRights.{is_record_into}
use Rattle.mapdb_rights.specs.Right.{rights_at}
use Rattle.mapdb_rights.proofs.Settling.Ended.{rights_in_place}
use Rattle.mapdb_rights.proofs.Lists.LeastNames.{least_of_both}
use Rattle.mapdb_rights.proofs.Live.LiveRecords.{into_held, not_root}
use Rattle.mapdb_facts.proofs.States.Newness.{not_true}

-- ---- of one order one place holds a page

aligned_low : (n s f : ℕ) → 0 < n → s % n ≡ 0 → s ≤ f → s ≤ f - f % n
aligned_low n s f some aligned low =
    elim (either_way (s / n) (f / n)) [
      | inl below ↦ let m = mul-le-mul_right {m = s / n} {n = f / n} n below in omega arith
      | inr above ↦ let m = mul-le-mul_right {m = f / n + 1} {n = s / n} n above in absurd (omega arith)
    ]

one_start : (n a b page : ℕ) → 0 < n → a % n ≡ 0 → b % n ≡ 0 → a ≤ page → page < a + n → b ≤ page → page < b + n → a ≡ b
one_start n a b page some at bt a_low a_high b_low b_high =
    let a_up = aligned_start n a page some at a_high in
    let a_down = aligned_low n a page some at a_low in
    let b_up = aligned_start n b page some bt b_high in
    let b_down = aligned_low n b page some bt b_low in
    omega arith

same_first : (a b : Listed) (page end : ℕ) → IsAligned a → IsAligned b → a.order ≡ b.order → end ≤ page + 1 → meets a page end ≡ true → meets b page end ≡ true → a.first ≡ b.first
same_first a b page end at bt order one a_meets b_meets =
    let pages : listed_pages b ≡ listed_pages a = sym (same_pages (own_place a) (own_place b) order) in
    let in_a = meets_below (own_place a) page end a_meets in
    let in_b = meets_below (own_place b) page end b_meets in
    let a_before = in_a.0 in
    let b_before = in_b.0 in
    let b_high : page < b.first + listed_pages a = subst (λ n. page < b.first + n) pages in_b.1 in
    one_start (listed_pages a) a.first b.first page (some_pages (own_place a)) at.aligned (subst (λ n. b.first % n ≡ 0) pages bt.aligned) (omega arith) in_a.1 (omega arith) b_high

-- a place that holds the page meets it
place_meets_page : (r : Record) (page end : ℕ) → holds r.place page ≡ true → page < end → meets (place_of r) page end ≡ true
place_meets_page r page end inside more =
    let range = holds_range r.place page inside in
    let low = range.0 in
    let high : page < r.place.first_page + listed_pages (place_of r) = range.1 in
    lt-ltb (max r.place.first_page page) (min (r.place.first_page + listed_pages (place_of r)) end) (omega arith)

-- ---- what was passed

-- what stands behind all entries of an entry's order
abbrev pub order_end : Listed → Listed
order_end e = record e { first = page_limit }

-- the orders that are left
abbrev pub orders_behind : Option Listed → ℕ
orders_behind None = 50
orders_behind (Some e) = 49 - e.order

module _ (S : State) (set : Places) (space : Space) (page : ℕ) where
  -- the record's place was passed
  abbrev pub HasPassed : Option Listed → RecordId → Type 0
  HasPassed passed id = (r : Record) × (S.record_at id ≡ Some r) × (is_above passed (place_of r) ≡ false)

  -- a name with a right at the page that was looked at
  abbrev pub Came : Option Listed → RecordId → Type 0
  Came passed id = IsLive S space page id × ((is_root id ≡ true) ⊎ HasPassed passed id)

  -- the ends of orders were passed, and the least of what came was found
  pub record Swept (after : Option RecordId) (passed : Option Listed) (found : Option RecordId) : Type 0 where
    pub owned : IfSome passed (λ p. p.owner ≡ owners.Space space)
    pub ends : IfSome passed (λ p. p.first ≡ page_limit)
    pub best : IsLeastOf (IsLive S space page) (Came passed) after found

  narrower : (Sound Sought More : RecordId → Type 0) (after found : Option RecordId) → ((id : RecordId) → More id → Sought id) → IsLeastOf Sound Sought after found → IsLeastOf Sound More after found
  narrower Sound Sought More after None fit h = λ id more. h id (fit id more)
  narrower Sound Sought More after (Some id) fit h = record { sound = h.sound; above = h.above; least = λ other more above. h.least other (fit other more) above }

  module _ (named : IsNamed S) (formed : (r : Record) → Holds S r → IsFormedRecord r) (lives : AreLive S set) where
    held_own : (id : RecordId) (r : Record) → S.record_at id ≡ Some r → Holds S r
    held_own id r at = subst (λ (i : RecordId). S.record_at i ≡ Some r) (sym (named id r at)) at

    held_not_root : (id : RecordId) (r : Record) → S.record_at id ≡ Some r → is_root id ≡ false
    held_not_root id r at = subst (λ (i : RecordId). is_root i ≡ false) (named id r at) (not_root r (formed r (held_own id r at)))

    -- what is shown has a right at the page of the space
    pub shown_live : (id : RecordId) → IsShown S space page id → IsLive S space page id
    shown_live id shown =
        let parts = and_parts (is_record_into (S.record_at id) space) (not (is_empty (rights_at S id page))) shown in
        by (S.record_at id) refl parts.0 parts.1
      where
        by : (o : Option Record) → S.record_at id ≡ o → is_record_into (S.record_at id) space ≡ true → not (is_empty (rights_at S id page)) ≡ true → IsLive S space page id
        by None at into some = absurd (false≢true (sym (ap (λ (o : Option Record). is_record_into o space) at) ∙ into))
        by (Some r) at into some = record {
          into = cond-false (is_root id) (is_first_space space) (is_record_into (S.record_at id) space) (held_not_root id r at) ∙ into;
          has_some = not_true (is_empty (rights_at S id page)) some;
        }

    -- where a record with a right at the page stands
    pub record Standing (id : RecordId) (end : ℕ) : Type 0 where
      pub r : Record
      pub at : S.record_at id ≡ Some r
      pub into : is_record_into (S.record_at id) space ≡ true
      pub has : is_listed set (place_of r) ≡ true
      pub owned : (place_of r).owner ≡ owners.Space space
      pub meeting : meets (place_of r) page end ≡ true

    pub standing : (id : RecordId) (end : ℕ) → is_root id ≡ false → (page < page_limit → page < end) → IsLive S space page id → Standing id end
    standing id end other more live =
        let held = into_held S space id other live.into in
        let inside : holds held.0.place page ≡ true = rights_in_place S id held.0 page other held.1 live.has_some in
        let range = holds_range held.0.place page inside in
        let high = range.1 in
        let limit = (lives.placed held.0 (held_own id held.0 held.1)).in_space in
        record {
          r = held.0;
          at = held.1;
          into = ap (λ (o : Option Record). is_record_into o space) held.1 ∙ held.2;
          has = lives.listed.places held.0 (held_own id held.0 held.1)
              (page, subst (λ (o : RecordId). is_empty (rights_at S o page) ≡ false) (sym (named id held.0 held.1)) live.has_some);
          owned = ap owners.Space (same_space_true held.0.space space held.2);
          meeting = place_meets_page held.0 page end inside (more (omega arith));
        }

    -- one order more
    module _ (after : Option RecordId) (passed : Option Listed) (end : ℕ) (one : end ≤ page + 1) (more : page < page_limit → page < end) (e : Listed)
        (next : IsLeastMeeting set (owners.Space space) page end passed e) where
      came_here : (id : RecordId) → Came (Some (order_end e)) id → Came passed id ⊎ IsShownAt set S space page e id
      came_here id came = elim came.1 [
        | inl top ↦ inl (came.0, inl top)
        | inr behind ↦ of_record behind
      ]
        where
          at_entry : (k : Listed) → k.id ≡ id → is_listed set k ≡ true → k.owner ≡ owners.Space space → meets k page end ≡ true → is_above passed k ≡ true
              → is_above (Some (order_end e)) k ≡ false → is_listed set (under e id) ≡ true
          at_entry k name has own meeting above not_above =
              elim (le_parts e k (next.owned ∙ sym own) (next.least k has own above meeting)) [
                | inl less ↦ absurd (true≢false (sym (ap is_lt (lt_parts (order_end e) k (next.owned ∙ sym own) (inl less))) ∙ not_above))
                | inr both ↦
                    let first : e.first ≡ k.first = same_first e k page end (lives.listed.aligned e next.held) (lives.listed.aligned k has) both.0 one next.meeting meeting in
                    let owner : k.owner ≡ e.owner = own ∙ sym next.owned in
                    let order = sym both.0 in
                    let is : k ≡ under e id = λ i. record { owner = owner i; order = order i; first = sym first i; id = name i } in
                    subst (λ (x : Listed). is_listed set x ≡ true) is has
              ]

          of_record : HasPassed (Some (order_end e)) id → Came passed id ⊎ IsShownAt set S space page e id
          of_record behind =
              let there = standing id end (held_not_root id behind.0 behind.1) more came.0 in
              let same : there.r ≡ behind.0 = one_record there.r behind.0 (sym there.at ∙ behind.1) in
              elim (cases_Bool (is_above passed (place_of there.r))) [
                | inl above ↦ inr (
                  at_entry (place_of there.r) (named id there.r there.at) there.has there.owned there.meeting above
                      (subst (λ (x : Record). is_above (Some (order_end e)) (place_of x) ≡ false) (sym same) behind.2),
                  and_from (is_record_into (S.record_at id) space) (not (is_empty (rights_at S id page))) there.into (ap not came.0.has_some),
                )
                | inr below ↦ inl (came.0, inr (there.r, there.at, below))
              ]
            where
              one_record : (a b : Record) → Some a ≡ Some b → a ≡ b
              one_record a b h = cc

      pub swept_next : (found shown : Option RecordId) → Swept after passed found → IsLeastOf (IsShown S space page) (IsShownAt set S space page e) after shown
          → Swept after (Some (order_end e)) (lesser found shown)
      swept_next found shown h s = record {
        owned = next.owned;
        ends = refl;
        best = least_of_both (IsLive S space page) (IsShown S space page) (Came (Some (order_end e))) (Came passed) (IsShownAt set S space page e) after shown_live came_here found shown h.best s;
      }

    -- behind the last order all came
    pub swept_all : (after : Option RecordId) (passed : Option Listed) (end : ℕ) (found : Option RecordId) → (page < page_limit → page < end)
        → IsNextMeeting set (owners.Space space) page end passed None → Swept after passed found → IsLiveFrom S space page after found
    swept_all after passed end found more none h = by found h.best
      where
        came_all : (id : RecordId) → IsLive S space page id → Came passed id
        came_all id live = elim (cases_Bool (is_root id)) [
          | inl top ↦ (live, inl top)
          | inr other ↦ of_record (standing id end other more live)
        ]
          where
            of_record : Standing id end → Came passed id
            of_record there = elim (cases_Bool (is_above passed (place_of there.r))) [
              | inl above ↦ absurd (true≢false (sym there.meeting ∙ none (place_of there.r) there.has there.owned above))
              | inr below ↦ (live, inr (there.r, there.at, below))
            ]

        by : (found : Option RecordId) → IsLeastOf (IsLive S space page) (Came passed) after found → IsLiveFrom S space page after found
        by None best = λ id live. best id (came_all id live)
        by (Some id) best = record { live = best.sound; above = best.above; least = λ other live above. best.least other (came_all other live) above }
