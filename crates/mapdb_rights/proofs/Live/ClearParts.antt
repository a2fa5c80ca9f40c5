-- A part of a space that no place of it meets shows nothing.
use Rattle.std.proofs.Common.{◌≡◌, ℕ, ◌+◌, ◌<◌, ◌≤◌, true, false, sym, ◌∙◌, List, arith, inl, inr}
use Rattle.std.specs.Prelude.{None, max, min}
use Rattle.std.proofs.lemmas.Bool.{cases_Bool, false≢true, lt-ltb, ltb-true}
use Rattle.mapdb_fpage.specs.RightSets.{is_empty}
use Rattle.mapdb_facts.specs.Names.{is_first_space, root}
use Rattle.mapdb_facts.specs.State.{State}
use Rattle.mapdb_facts.specs.declared.names.Space.{Space}
use Rattle.mapdb_lists.specs.Listing.{owner_places}
use Rattle.mapdb_lists.specs.OwnPlaces.{own_meets, own_pages, stands}
use Rattle.mapdb_lists.specs.declared.own_place.OwnPlace.{OwnPlace}
use Rattle.mapdb_lists.specs.declared.places.Owner.TheVariants as owners
use Rattle.mapdb_lists.specs.declared.places.Places.{Places}
use Rattle.mapdb_rights.specs.Among.{is_shown}
use Rattle.mapdb_rights.specs.Live.{IsLive}
use Rattle.mapdb_rights.specs.LivePlaces.{AreLive}
use Rattle.mapdb_rights.specs.Right.{rights_at}
use Rattle.mapdb_rights.specs.Served.{IsServed}
use Rattle.mapdb_rights.proofs.Live.PassedPlaces.{passed_all}

meets_wider : (p : OwnPlace) (page first end : ℕ) → first ≤ page → page < end → own_meets p page (page + 1) ≡ true → own_meets p first end ≡ true
meets_wider p page first end from before h =
    let less : max p.first page < min (p.first + own_pages p) (page + 1) = ltb-true (max p.first page) (min (p.first + own_pages p) (page + 1)) h in
    lt-ltb (max p.first first) (min (p.first + own_pages p) end) (omega arith)

pub clear_part : (S : State) (live : Places) → AreLive S live → (space : Space) (places : List OwnPlace) → owner_places live (owners.Space space) ≡ places
    → is_first_space space ≡ false → (first end : ℕ) → ((p : OwnPlace) → stands places p ≡ true → own_meets p first end ≡ false)
    → (page : ℕ) → first ≤ page → page < end → IsServed S space page None
clear_part S live lives space places are other first end none page from before id into =
    elim (cases_Bool (is_empty (rights_at S id page))) [
      | inl nothing ↦ nothing
      | inr some ↦ absurd (passed_all S space page live lives places are (λ _. ⊥) (page + 1) (λ _. omega arith) top told id (record { into = into; has_some = some }))
    ]
  where
    top : IsLive S space page root → ⊥
    top at_root = false≢true (sym other ∙ at_root.into)

    told : (p : OwnPlace) → stands places p ≡ true → own_meets p page (page + 1) ≡ true → is_shown S space page p.id ≡ true → ⊥
    told p has meeting shown = false≢true (sym (none p has) ∙ meets_wider p page first end from before meeting)
