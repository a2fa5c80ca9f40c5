-- The first record with a right at a page, of the places of a list that were passed.
use Rattle.std.proofs.Common.{◌≡◌, ℕ, ◌≤◌, List, [], ◌∷◌, ◌++◌, true, inl, inr, ap, subst, ◌∙◌, arith}
use Rattle.std.proofs.lemmas.Bool.{false≢true}
use Rattle.mapdb_facts.specs.Names.{root}
use Rattle.mapdb_facts.specs.State.{State}
use Rattle.mapdb_facts.specs.declared.names.RecordId.{RecordId}
use Rattle.mapdb_facts.specs.declared.names.Space.{Space}
use Rattle.mapdb_lists.specs.Changes.{Cached, PageChanges, seen_in}
use Rattle.mapdb_lists.specs.OwnPlaces.{own_meets, stands}
use Rattle.mapdb_lists.specs.declared.own_place.OwnPlace.{OwnPlace}
use Rattle.mapdb_lists.specs.declared.places.Places.{Places}
use Rattle.mapdb_rights.specs.Among.{is_shown}
use Rattle.mapdb_rights.specs.First.{IsBehindFirst, IsFirstFound, first_where}
use Rattle.mapdb_rights.specs.Live.{IsLive}
use Rattle.mapdb_rights.specs.declared.index.first_records.First.{First}
use Rattle.mapdb_rights.proofs.Live.FirstRecords.{found_where, here_where, kept_where}
use Rattle.mapdb_rights.proofs.Places.PlaceWalks.{pushed}
use Rattle.mapdb_rights.proofs.Steady.ShownRuns.{Stays, meets_more}

module _ (S : State) (changes : PageChanges) (space : Space) (page : ℕ) where
  -- none of the records of these places that has a right there comes before the one that was found
  pub record FirstHeld (passed : List OwnPlace) (found : First) : Type 0 where
    pub found_there : IsFirstFound S changes space page found
    pub top : IsLive S space page root → IsBehindFirst changes page found root
    pub behind : (p : OwnPlace) → stands passed p ≡ true → is_shown S space page p.id ≡ true → IsBehindFirst changes page found p.id

  pub first_held : (found : First) → IsFirstFound S changes space page found → (IsLive S space page root → IsBehindFirst changes page found root) → FirstHeld [] found
  first_held found there top = record {
    found_there = there;
    top = top;
    behind = λ p has shown. absurd (false≢true has);
  }

  -- one place more
  pub held_on : (passed : List OwnPlace) (next : OwnPlace) (found : First) → (is_shown S space page next.id ≡ true → IsLive S space page next.id)
      → FirstHeld passed found → FirstHeld (passed ++ next ∷ []) (first_where (is_shown S space page next.id) next.id (seen_in changes next.id page) found)
  held_on passed next found live h = record {
    found_there = found_where S changes space page next.id found live h.found_there;
    top = λ there. keeps root (h.top there);
    behind = λ p has shown. elim (pushed passed next p has) [
      | inl same ↦ subst (λ (x : OwnPlace). IsBehindFirst changes page (first_where (is_shown S space page next.id) next.id (seen_in changes next.id page) found) x.id) same
          (here_where S changes space page (is_shown S space page next.id) next.id found (ap (λ (x : OwnPlace). is_shown S space page x.id) same ∙ shown))
      | inr before ↦ keeps p.id (h.behind p before shown)
    ];
  }
    where
      keeps : (id : RecordId) → IsBehindFirst changes page found id
          → IsBehindFirst changes page (first_where (is_shown S space page next.id) next.id (seen_in changes next.id page) found) id
      keeps id = kept_where S changes space page (is_shown S space page next.id) next.id id (seen_in changes next.id page) found

-- what is cached of the records of the places that meet the pages stays, with one place more
pub stays_on : (set : Places) (space : Space) (cached : Cached) (page : ℕ) (passed : List OwnPlace) (next : OwnPlace) (end until least : ℕ) → least ≤ end → least ≤ until
    → (own_meets next page until ≡ true → Stays set space cached page next.id until)
    → ((p : OwnPlace) → stands passed p ≡ true → own_meets p page end ≡ true → Stays set space cached page p.id end)
    → (p : OwnPlace) → stands (passed ++ next ∷ []) p ≡ true → own_meets p page least ≡ true → Stays set space cached page p.id least
stays_on set space cached page passed next end until least fewer up_to here h p has meeting = elim (pushed passed next p has) [
  | inl same ↦ subst (λ (x : OwnPlace). Stays set space cached page x.id least) same
      (λ q low less. here (meets_more next page least until up_to (ap (λ (x : OwnPlace). own_meets x page least) same ∙ meeting)) q low (omega arith))
  | inr before ↦ λ q low less. h p before (meets_more p page least end fewer meeting) q low (omega arith)
]
