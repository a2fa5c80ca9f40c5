-- Which records have a right at some page after an operation, and when all is settled.
use Rattle.std.proofs.Common.{◌≡◌, ℕ, Bool, [], Some, false, true, refl, sym, ap, subst, ◌∙◌, inl, inr}
use Rattle.std.specs.Prelude.{◌⊎◌, None, OnOk, Option, Result, Ok, Err}
use Rattle.std.proofs.lemmas.Bool.{cases_Bool, true≢false}
use Rattle.mapdb_fpage.specs.RightSets.{is_empty}
use Rattle.mapdb_fpage.specs.declared.right_sets.Rights.{Rights}
use Rattle.mapdb_facts.specs.Exact.{exact_id}
use Rattle.mapdb_facts.specs.Looking.{Holds}
use Rattle.mapdb_facts.specs.Merging.{IsNamed}
use Rattle.mapdb_facts.specs.Names.{same_id}
use Rattle.mapdb_facts.specs.State.{State, first_of, join}
use Rattle.mapdb_facts.specs.WellFormed.{IsFormedRecord}
use Rattle.mapdb_facts.specs.declared.names.RecordId.{RecordId}
use Rattle.mapdb_facts.specs.declared.operations.Record.{Record}
use Rattle.mapdb_facts.proofs.Lists.SameNames.{some_same}
use Rattle.mapdb_lists.specs.Changes.{Cached, cached_in}
use Rattle.mapdb_lists.specs.Listing.{AllAligned, is_listed}
use Rattle.mapdb_lists.specs.declared.places.Listed.{Listed}
use Rattle.mapdb_lists.specs.declared.places.Places.{Places}
use Rattle.mapdb_lists.proofs.Lists.Entries.{none_aligned}
use Rattle.mapdb_rights.specs.Caching.{AreRights}
use Rattle.mapdb_rights.specs.Following.{AreListed}
use Rattle.mapdb_rights.specs.HeldPlaces.{AreOfHeld, place_of}
use Rattle.mapdb_rights.specs.LivePlaces.{AreLive, HasSome, IsLiveEntry, IsPlaceUnder, ListedLive, ListsLive}
use Rattle.mapdb_rights.proofs.Rights.Walk.{rights_at-none}
use Rattle.mapdb_rights.proofs.Settling.Built.{empty_other}
use Rattle.mapdb_rights.proofs.Settling.Ended.{numbered_is_other}
use Rattle.mapdb_rights.proofs.Settling.Followed.{held_on}

-- where the cached rights are the rights, the records that have some are listed
pub are_live : (S : State) (cached : Cached) (listed live : Places) → AreListed S listed → AreRights S cached → ListsLive S cached live → AreLive S live
are_live S cached listed live are rights lives = record {
  named = are.named;
  formed = are.formed;
  placed = λ r held. (are.sources r held).place;
  listed = record {
    places = λ r held has. lives.places r held (has.0, ap is_empty (rights r.id has.0) ∙ has.1);
    aligned = lives.aligned;
    only = λ e has. let one = lives.only e has in record {
      r = one.r;
      held = one.held;
      is = one.is;
      some = (one.some.0, sym (ap is_empty (rights one.r.id one.some.0)) ∙ one.some.1);
    };
  };
}

-- What is listed after an operation is still all that has some cached right: a record that came has
-- none yet.
pub live_later : (S before T : State) (cached : Cached) (live : Places) → S ≡ join before T → ((r : Record) → Holds S r → IsFormedRecord r) → AreRights before cached → AreLive before live
    → ListsLive S cached live
live_later S before T cached live is formed rights lives = record {
  places = λ r held has. by r held has (before.record_at r.id) refl;
  aligned = lives.listed.aligned;
  only = λ e has. let one = lives.listed.only e has in record {
    r = one.r;
    held = held_on S before T is one.r one.held;
    is = one.is;
    some = (one.some.0, ap is_empty (rights one.r.id one.some.0) ∙ one.some.1);
  };
}
  where
    by : (r : Record) → Holds S r → HasSome (cached r.id) → (o : Option Record) → before.record_at r.id ≡ o → is_listed live (place_of r) ≡ true
    by r held has None none =
        absurd (true≢false (
        sym (ap is_empty (rights r.id has.0 ∙ rights_at-none before r.id has.0 (numbered_is_other r.id (formed r held).has_number) none)) ∙ has.1))
    by r held has (Some b) at =
        let one : b ≡ r = some_same b r (sym (ap (λ (U : State). U.record_at r.id) is ∙ ap (λ (o : Option Record). first_of o (T.record_at r.id)) at) ∙ held) in
        lives.listed.places r (at ∙ ap Some one) (has.0, sym (ap is_empty (rights r.id has.0)) ∙ has.1)

-- where nothing is cached and nothing listed, no record has a right
pub none_live : (S : State) (live : Places) → ((r : Record) → Holds S r → IsFormedRecord r) → ((e : Listed) → is_listed live e ≡ false) → ListsLive S (cached_in []) live
none_live S live formed none = record {
  places = λ r held has. absurd (true≢false (sym (ap is_empty (empty_other r.id has.0 (numbered_is_other r.id (formed r held).has_number))) ∙ has.1));
  aligned = none_aligned live none;
  only = λ e has. absurd (true≢false (sym has ∙ none e));
}

-- what is listed is of held records
pub of_live : (S : State) (cached : Cached) (live : Places) → ListsLive S cached live → AreOfHeld S live
of_live S cached live lives e has = let one = lives.only e has in record { r = one.r; held = one.held; is = inl one.is }

-- a name without a right at any page has none at some page
pub none_has : (rights : ℕ → Rights) → ((page : ℕ) → is_empty (rights page) ≡ true) → HasSome rights → ⊥
none_has rights none has = true≢false (sym (none has.0) ∙ has.1)

-- The rights of one record were written.
module _ (S : State) (cached : Cached) (live : Places) (id : RecordId) (had_some : Bool) (was : ListedLive S cached live id had_some) where
  some_of : (other : RecordId) → same_id id other ≡ true → HasSome (cached other) → HasSome (cached id)
  some_of other same = subst (λ (o : RecordId). HasSome (cached o)) (sym (exact_id id other same))

  some_for : (other : RecordId) → same_id id other ≡ true → HasSome (cached id) → HasSome (cached other)
  some_for other same = subst (λ (o : RecordId). HasSome (cached o)) (exact_id id other same)

  had_of : (other : RecordId) → same_id id other ≡ true → HasSome (was.before other) → HasSome (was.before id)
  had_of other same = subst (λ (o : RecordId). HasSome (was.before o)) (sym (exact_id id other same))

  had_for : (other : RecordId) → same_id id other ≡ true → HasSome (was.before id) → HasSome (was.before other)
  had_for other same = subst (λ (o : RecordId). HasSome (was.before o)) (exact_id id other same)

  -- the others have what they had
  had_still : (other : RecordId) → same_id id other ≡ false → HasSome (cached other) → HasSome (was.before other)
  had_still other apart has = (has.0, ap is_empty (sym (was.others other has.0 apart)) ∙ has.1)

  has_still : (other : RecordId) → same_id id other ≡ false → HasSome (was.before other) → HasSome (cached other)
  has_still other apart has = (has.0, ap is_empty (was.others other has.0 apart) ∙ has.1)

  -- so each other record is listed where it was
  others_listed : (r : Record) → Holds S r → same_id id r.id ≡ false → HasSome (cached r.id) → is_listed live (place_of r) ≡ true
  others_listed r held apart has = was.listed.places r held (had_still r.id apart has)

  others_live : (e : Listed) (one : IsLiveEntry S was.before e) → same_id id one.r.id ≡ false → IsLiveEntry S cached e
  others_live e one apart = record { r = one.r; held = one.held; is = one.is; some = has_still one.r.id apart one.some }

  -- it has some as before, or none as before
  pub lists_still : (HasSome (cached id) → had_some ≡ true) → (had_some ≡ true → HasSome (cached id)) → ListsLive S cached live
  lists_still to from = record {
    places = λ r held has. elim (cases_Bool (same_id id r.id)) [
      | inl same ↦ was.listed.places r held (had_for r.id same (was.some (to (some_of r.id same has))))
      | inr apart ↦ others_listed r held apart has
    ];
    aligned = was.listed.aligned;
    only = λ e has. of_entry e (was.listed.only e has);
  }
    where
      of_entry : (e : Listed) → IsLiveEntry S was.before e → IsLiveEntry S cached e
      of_entry e one = elim (cases_Bool (same_id id one.r.id)) [
        | inr apart ↦ others_live e one apart
        | inl same ↦ elim (cases_Bool had_some) [
          | inl had ↦ record { r = one.r; held = one.held; is = one.is; some = some_for one.r.id same (from had) }
          | inr none ↦ absurd (none_has (was.before id) (was.none none) (had_of one.r.id same one.some))
        ]
      ]

  -- it has some and had none: its place is listed
  pub lists_more : {T E : Type 0} (result : Result T E) (new : Places) → had_some ≡ false → HasSome (cached id) → OnOk result (AllAligned new)
      → OnOk result ((r : Record) → S.record_at id ≡ Some r → is_listed new (place_of r) ≡ true) → OnOk result ((e : Listed) → is_listed live e ≡ true → is_listed new e ≡ true)
      → OnOk result ((e : Listed) → is_listed new e ≡ true → IsPlaceUnder S id e ⊎ (is_listed live e ≡ true)) → IsNamed S → OnOk result (ListsLive S cached new)
  lists_more (Err e) new none some aligned there kept no_more named = aligned
  lists_more (Ok v) new none some aligned there kept no_more named = record {
    places = λ r held has. elim (cases_Bool (same_id id r.id)) [
      | inl same ↦ there r (ap S.record_at (exact_id id r.id same) ∙ held)
      | inr apart ↦ kept (place_of r) (others_listed r held apart has)
    ];
    aligned = aligned;
    only = λ e has. elim (no_more e has) [
      | inl under ↦ of_name e under
      | inr before ↦ of_entry e (was.listed.only e before)
    ];
  }
    where
      of_name : (e : Listed) → IsPlaceUnder S id e → IsLiveEntry S cached e
      of_name e under =
          let name : under.r.id ≡ id = named id under.r under.at in
          record { r = under.r; held = ap S.record_at name ∙ under.at; is = under.is; some = subst (λ (o : RecordId). HasSome (cached o)) (sym name) some }

      of_entry : (e : Listed) → IsLiveEntry S was.before e → IsLiveEntry S cached e
      of_entry e one = elim (cases_Bool (same_id id one.r.id)) [
        | inr apart ↦ others_live e one apart
        | inl same ↦ absurd (none_has (was.before id) (was.none none) (had_of one.r.id same one.some))
      ]

  -- it had some and has none: its place is gone
  pub lists_less : (new : Places) → ((page : ℕ) → is_empty (cached id page) ≡ true) → ((e : Listed) → is_listed new e ≡ true → is_listed live e ≡ true)
      → ((r : Record) → S.record_at id ≡ Some r → is_listed new (place_of r) ≡ false) → ((e : Listed) → same_id id e.id ≡ false → is_listed live e ≡ true → is_listed new e ≡ true)
      → ListsLive S cached new
  lists_less new none less gone others = record {
    places = λ r held has. elim (cases_Bool (same_id id r.id)) [
      | inl same ↦ absurd (none_has (cached id) none (some_of r.id same has))
      | inr apart ↦ others (place_of r) apart (others_listed r held apart has)
    ];
    aligned = λ e has. was.listed.aligned e (less e has);
    only = λ e has. of_entry e has (was.listed.only e (less e has));
  }
    where
      of_entry : (e : Listed) → is_listed new e ≡ true → IsLiveEntry S was.before e → IsLiveEntry S cached e
      of_entry e has one = elim (cases_Bool (same_id id one.r.id)) [
        | inr apart ↦ others_live e one apart
        | inl same ↦ absurd (true≢false (sym has ∙ ap (is_listed new) one.is ∙ gone one.r (ap S.record_at (exact_id id one.r.id same) ∙ one.held)))
      ]
