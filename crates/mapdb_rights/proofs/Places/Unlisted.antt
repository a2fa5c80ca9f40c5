-- What is listed where an entry was let go of, and where one came.
use Rattle.std.proofs.Common.{◌≡◌, ◌+◌, true, ap, subst, sym, ◌∙◌, arith, inl, inr}
use Rattle.std.specs.Prelude.{◌⊎◌, ◌&&◌, max, min, not}
use Rattle.std.specs.BTreeMap.{is_at}
use Rattle.std.proofs.lemmas.Bool.{and_from, and_parts, cases_Bool, false≢true, lt-ltb}
use Rattle.mapdb_fpage.specs.Bounds.{page_limit}
use Rattle.mapdb_facts.proofs.Lists.SameNames.{some_same}
use Rattle.mapdb_facts.specs.Looking.{Holds}
use Rattle.mapdb_facts.specs.State.{State}
use Rattle.mapdb_facts.specs.declared.operations.Record.{Record}
use Rattle.mapdb_lists.proofs.Lists.ListedOrder.{exact_listed, owner_is}
use Rattle.mapdb_lists.proofs.PlaceLemmas.Meetings.{some_pages}
use Rattle.mapdb_lists.specs.Changes.{Cached}
use Rattle.mapdb_lists.specs.Listing.{AllAligned, IsAligned, is_listed, listed_cmp, own_place}
use Rattle.mapdb_lists.specs.OwnPlaces.{own_meets, own_pages}
use Rattle.mapdb_lists.specs.declared.places.Listed.{Listed}
use Rattle.mapdb_lists.specs.declared.places.Owner.TheVariants as owners
use Rattle.mapdb_lists.specs.declared.places.Places.{Places}
use Rattle.mapdb_rights.specs.Following.{AreListed}
use Rattle.mapdb_rights.specs.HeldPlaces.{place_of, source_of}
use Rattle.mapdb_rights.specs.IdlePlaces.{HasIdle}
use Rattle.mapdb_rights.specs.Revoked.{IsRevoked, IsRevokedBelow}

-- an aligned entry meets the pages of the space
pub meets_all : (e : Listed) → IsAligned e → own_meets (own_place e) 0 page_limit ≡ true
meets_all e at =
    let some = some_pages (own_place e) in
    let limit = at.in_space in
    lt-ltb (max e.first 0) (min (e.first + own_pages (own_place e)) page_limit) (omega arith)

module _ (S : State) (old new : Places) (gone : Listed) (less : (e : Listed) → is_listed new e ≡ (not (is_at (listed_cmp gone) e) && is_listed old e)) where
  was : (e : Listed) → is_listed new e ≡ true → is_listed old e ≡ true
  was e has = (and_parts (not (is_at (listed_cmp gone) e)) (is_listed old e) (sym (less e) ∙ has)).1

  stays : (e : Listed) (P : Type 0) → (gone ≡ e → P) → P ⊎ (is_listed old e ≡ true) → P ⊎ (is_listed new e ≡ true)
  stays e P may (inl p) = inl p
  stays e P may (inr has) = elim (cases_Bool (is_at (listed_cmp gone) e)) [
    | inl same ↦ inl (may (exact_listed gone e same))
    | inr apart ↦ inr (less e ∙ and_from (not (is_at (listed_cmp gone) e)) (is_listed old e) (ap not apart) has)
  ]

  listed_less : ((r : Record) → Holds S r → gone ≡ source_of r → IsRevoked S r) → AreListed S old → AreListed S new
  listed_less revoked are = record {
    named = are.named;
    formed = are.formed;
    sources = λ r held. let l = are.sources r held in record {
      by_parent = stays (source_of r) (IsRevoked S r) (revoked r held) l.by_parent;
      place = l.place;
    };
    aligned = λ e has. are.aligned e (was e has);
    held = λ e has. are.held e (was e has);
  }

  idle_less : (cached : Cached) → ((r : Record) → Holds S r → gone ≡ place_of r → IsRevokedBelow S r) → HasIdle S cached old → HasIdle S cached new
  idle_less cached below are r held = elim (are r held) [
    | inl some ↦ inl some
    | inr place ↦ inr (stays (place_of r) (IsRevokedBelow S r) (below r held) place)
  ]

  module _ (m : Record) where
    source_alone : gone ≡ source_of m → (r : Record) → gone ≡ place_of r → ⊥
    source_alone is r e = false≢true (owner_is (owners.Record m.parent) (owners.Space r.space) (sym (ap (λ (k : Listed). k.owner) is) ∙ ap (λ (k : Listed). k.owner) e))

    place_alone : gone ≡ place_of m → (r : Record) → gone ≡ source_of r → ⊥
    place_alone is r e = false≢true (owner_is (owners.Space m.space) (owners.Record r.parent) (sym (ap (λ (k : Listed). k.owner) is) ∙ ap (λ (k : Listed). k.owner) e))

    same_held : Holds S m → (r : Record) → Holds S r → m.id ≡ r.id → m ≡ r
    same_held own r held name = some_same m r (sym own ∙ ap S.record_at name ∙ held)

    -- the source of a revoked record may go
    pub without_source : AreListed S old → Holds S m → IsRevoked S m → gone ≡ source_of m → AreListed S new
    without_source are own revoked is = listed_less
        (λ r held e. subst (λ (x : Record). IsRevoked S x) (same_held own r held (sym (ap (λ (k : Listed). k.id) is) ∙ ap (λ (k : Listed). k.id) e)) revoked)
        are

    pub idle_without_source : (cached : Cached) → gone ≡ source_of m → HasIdle S cached old → HasIdle S cached new
    idle_without_source cached is = idle_less cached (λ r held e. absurd (source_alone is r e))

    -- and so may its place, where no child of it is listed
    pub without_place : gone ≡ place_of m → AreListed S old → AreListed S new
    without_place is = listed_less (λ r held e. absurd (place_alone is r e))

    pub idle_without_place : (cached : Cached) → AreListed S old → Holds S m → IsRevoked S m → ((e : Listed) → e.owner ≡ owners.Record m.id → is_listed old e ≡ true → ⊥) → gone ≡ place_of m
        → HasIdle S cached old → HasIdle S cached new
    idle_without_place cached are own revoked childless is = idle_less cached
        (λ r held e. subst (λ (x : Record). IsRevokedBelow S x) (same_held own r held (sym (ap (λ (k : Listed). k.id) is) ∙ ap (λ (k : Listed). k.id) e)) below)
      where
        below : IsRevokedBelow S m
        below = record {
          own = revoked;
          children = λ c held child. elim (are.sources c held).by_parent [
            | inl gone_too ↦ gone_too
            | inr has ↦ absurd (childless (source_of c) (ap owners.Record child) has)
          ];
        }

-- the place of a held record more is listed
pub listed_with_place : (S : State) (old new : Places) (m : Record) → Holds S m → AllAligned new → ((e : Listed) → is_listed old e ≡ true → is_listed new e ≡ true)
    → ((e : Listed) → is_listed new e ≡ true → (e ≡ place_of m) ⊎ (is_listed old e ≡ true)) → AreListed S old → AreListed S new
listed_with_place S old new m own aligned kept no_more are = record {
  named = are.named;
  formed = are.formed;
  sources = λ r held. let l = are.sources r held in record {
    by_parent = elim l.by_parent [
      | inl revoked ↦ inl revoked
      | inr has ↦ inr (kept (source_of r) has)
    ];
    place = l.place;
  };
  aligned = aligned;
  held = λ e has. elim (no_more e has) [
    | inl here ↦ record { r = m; held = own; is = inl here }
    | inr before ↦ are.held e before
  ];
}
