-- A record whose place, or whose source, shares pages with a place has an entry that meets its pages.
use Rattle.std.proofs.Common.{◌≡◌, ◌+◌, ◌-◌, ◌<◌, Bool, true, false, List, refl, ap, subst, sym, ◌∙◌, arith, inl, inr}
use Rattle.std.specs.Prelude.{All, None, Some, filter, is_some, max, min, nat_le, nat_lt, if◌then◌else◌}
use Rattle.std.specs.List.{filter_map}
use Rattle.std.specs.List.Sorted.{IsStrictlySortedBy}
use Rattle.std.proofs.lemmas.Bool.{and_parts, cases_Bool, false≢true, lt-ltb, true≢false}
use Rattle.std.proofs.lemmas.Nat.{pow_pos}
use Rattle.mapdb_fpage.proofs.Meets.{holds_range}
use Rattle.mapdb_fpage.specs.Place.{Place, holds, meet, page_total}
use Rattle.mapdb_facts.proofs.Lists.SameNames.{same_id_true, same_space_true}
use Rattle.mapdb_facts.specs.Facts.{records_of_facts, state_of_facts}
use Rattle.mapdb_facts.specs.Kept.{id_cmp}
use Rattle.mapdb_facts.specs.Looking.{Holds}
use Rattle.mapdb_facts.specs.Merging.{IsNamed}
use Rattle.mapdb_facts.specs.Names.{same_id, same_space}
use Rattle.mapdb_facts.specs.State.{State}
use Rattle.mapdb_facts.specs.WellFormed.{IsFormedRecord}
use Rattle.mapdb_facts.specs.declared.holding.Facts.{Facts}
use Rattle.mapdb_facts.specs.declared.names.RecordId.{RecordId}
use Rattle.mapdb_facts.specs.declared.names.Space as names_of
use Rattle.mapdb_facts.specs.declared.operations.Record as operations
use Rattle.mapdb_lists.specs.Listing.{is_listed, meets}
use Rattle.mapdb_lists.specs.declared.places.Listed.{Listed}
use Rattle.mapdb_lists.specs.declared.places.Owner.{Owner}
use Rattle.mapdb_lists.specs.declared.places.Owner.TheVariants.{Record, Space}
use Rattle.mapdb_lists.specs.declared.places.Places.{Places}
use Rattle.mapdb_rights.specs.AllBut.{IsAllBut}
use Rattle.mapdb_rights.specs.HeldPlaces.{entry_for, place_of, source_of}
use Rattle.mapdb_rights.specs.Meeting.{IsUnnamed, is_named, record_if, shares_part, source_place}
use Rattle.mapdb_rights.proofs.Lists.NamedRecords.{all_looked, ascending_keys, looked_are_left}

-- places that share pages meet
meet_meets : (a b : Place) → is_some (meet a b) ≡ true → nat_lt (max a.first_page b.first_page) (min (a.first_page + page_total a) (b.first_page + page_total b)) ≡ true
meet_meets a b h = by_size (nat_le a.order b.order) h
  where
    some_a : 0 < page_total a
    some_a = pow_pos (a.order - 12)

    some_b : 0 < page_total b
    some_b = pow_pos (b.order - 12)

    in_b : (t : Bool) → holds b a.first_page ≡ t → is_some (if t then Some a else None) ≡ true
        → nat_lt (max a.first_page b.first_page) (min (a.first_page + page_total a) (b.first_page + page_total b)) ≡ true
    in_b true e k =
        let range = holds_range b a.first_page e in
        let low = range.0 in
        let high = range.1 in
        let some = some_a in
        lt-ltb (max a.first_page b.first_page) (min (a.first_page + page_total a) (b.first_page + page_total b)) (omega arith)
    in_b false e k = absurd (false≢true k)

    in_a : (t : Bool) → holds a b.first_page ≡ t → is_some (if t then Some b else None) ≡ true
        → nat_lt (max a.first_page b.first_page) (min (a.first_page + page_total a) (b.first_page + page_total b)) ≡ true
    in_a true e k =
        let range = holds_range a b.first_page e in
        let low = range.0 in
        let high = range.1 in
        let some = some_b in
        lt-ltb (max a.first_page b.first_page) (min (a.first_page + page_total a) (b.first_page + page_total b)) (omega arith)
    in_a false e k = absurd (false≢true k)

    by_size : (t : Bool) → is_some (if t then (if holds b a.first_page then Some a else None) else (if holds a b.first_page then Some b else None)) ≡ true
        → nat_lt (max a.first_page b.first_page) (min (a.first_page + page_total a) (b.first_page + page_total b)) ≡ true
    by_size true k = in_b (holds b a.first_page) refl k
    by_size false k = in_a (holds a b.first_page) refl k

-- the entry of a record that shares pages with a place is the owner's, and meets its pages
entry_meets : (owner : Owner) (part : Place) (r : operations.Record) → shares_part owner part r ≡ true
    → ((entry_for owner r).owner ≡ owner) × (meets (entry_for owner r) part.first_page (part.first_page + page_total part) ≡ true)
entry_meets (Space space) part r shares =
    let parts = and_parts (same_space r.space space) (is_some (meet r.place part)) shares in
    (ap Space (same_space_true r.space space parts.0), meet_meets r.place part parts.1)
entry_meets (Record parent) part r shares =
    let parts = and_parts (same_id r.parent parent) (is_some (meet (source_place r) part)) shares in
    (ap Record (same_id_true r.parent parent parts.0), meet_meets (source_place r) part parts.1)

-- what is not named is not listed, where the names have those of all entries of the owner that meet the pages
module _ (set : Places) (S : State) (names : List RecordId) (part : Place) (r : operations.Record) where
  abbrev AllNamed : Owner → Type 0
  AllNamed owner = (e : Listed) → is_listed set e ≡ true → e.owner ≡ owner → meets e part.first_page (part.first_page + page_total part) ≡ true → is_named names e.id ≡ true

  pub out_of_space : (space : names_of.Space) → AllNamed (Space space) → IsUnnamed S names (Space space) part r → is_listed set (place_of r) ≡ true → ⊥
  out_of_space space each out has =
      let met = entry_meets (Space space) part r out.shares in
      true≢false (sym (each (place_of r) has met.0 met.1) ∙ out.out)

  pub out_of_parent : (parent : RecordId) → AllNamed (Record parent) → IsUnnamed S names (Record parent) part r → is_listed set (source_of r) ≡ true → ⊥
  out_of_parent parent each out has =
      let met = entry_meets (Record parent) part r out.shares in
      true≢false (sym (each (source_of r) has met.0 met.1) ∙ out.out)

-- what the names find, as far as it shares pages with the place, is all that does, but for what is not named
pub sharing_is_all : (facts : Facts) (owner : Owner) (part : Place) (read sorted names : List RecordId) → read ≡ sorted
    → IsNamed (state_of_facts facts) → IsStrictlySortedBy id_cmp sorted → ((id : RecordId) → is_named names id ≡ true → is_named sorted id ≡ true)
    → IsAllBut (IsUnnamed (state_of_facts facts) names owner part) (filter (shares_part owner part) (records_of_facts facts))
    (filter_map (λ id. record_if (shares_part owner part) ((state_of_facts facts).record_at id)) read)
sharing_is_all facts owner part read sorted names is named rising kept =
    subst (λ (ids : List RecordId). IsAllBut (IsUnnamed (state_of_facts facts) names owner part) (filter (shares_part owner part) (records_of_facts facts))
    (filter_map (λ id. record_if (shares_part owner part) ((state_of_facts facts).record_at id)) ids)) (sym is)
    (looked_are_left facts (IsUnnamed (state_of_facts facts) names owner part) (shares_part owner part) sorted named (ascending_keys sorted rising)
    (λ r held shares. elim (cases_Bool (is_named names r.id)) [
      | inl has ↦ inr (kept r.id has)
      | inr out ↦ inl (record { held = held; shares = shares; out = out })
    ]))

-- and it is all of held records
pub sharing_formed : (facts : Facts) (owner : Owner) (part : Place) (read names : List RecordId) → read ≡ names
    → IsNamed (state_of_facts facts) → ((r : operations.Record) → Holds (state_of_facts facts) r → IsFormedRecord r) → IsStrictlySortedBy id_cmp names
    → All IsFormedRecord (filter_map (λ id. record_if (shares_part owner part) ((state_of_facts facts).record_at id)) read)
sharing_formed facts owner part read names is named formed rising =
    subst (λ (ids : List RecordId). All IsFormedRecord (filter_map (λ id. record_if (shares_part owner part) ((state_of_facts facts).record_at id)) ids)) (sym is)
    (all_looked facts (shares_part owner part) names IsFormedRecord named (ascending_keys names rising) formed)
