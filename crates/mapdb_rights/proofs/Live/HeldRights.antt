-- The rights of one frame that the records of those places of a list have that were passed.
use Rattle.std.proofs.Common.{◌≡◌, ℕ, List, [], ◌∷◌, ◌++◌, true, refl, ap, subst, inl, inr}
use Rattle.std.specs.Prelude.{not}
use Rattle.std.proofs.lemmas.Bool.{and_from}
use Rattle.mapdb_fpage.specs.RightSets.{is_empty}
use Rattle.mapdb_fpage.specs.declared.right_sets.Rights.{Rights}
use Rattle.mapdb_facts.specs.Names.{root}
use Rattle.mapdb_facts.specs.State.{State}
use Rattle.mapdb_facts.specs.declared.names.Space.{Space}
use Rattle.mapdb_lists.specs.Changes.{PageChanges, cached_in, seen_in}
use Rattle.mapdb_lists.specs.Listing.{is_listed, listed_for}
use Rattle.mapdb_lists.specs.OwnPlaces.{stands}
use Rattle.mapdb_lists.specs.declared.own_place.OwnPlace.{OwnPlace}
use Rattle.mapdb_lists.specs.declared.places.Owner.TheVariants as owners
use Rattle.mapdb_lists.specs.declared.places.Places.{Places}
use Rattle.mapdb_rights.specs.Among.{is_shown}
use Rattle.mapdb_rights.specs.Caching.{AreRights}
use Rattle.mapdb_rights.specs.First.{AreAsFar, IsJoined, joined_as_far}
use Rattle.mapdb_rights.specs.Live.{IsLive}
use Rattle.mapdb_rights.specs.LivePlaces.{AreLive}
use Rattle.mapdb_rights.specs.PageRights.{is_record_into}
use Rattle.mapdb_rights.specs.Right.{rights_at}
use Rattle.mapdb_rights.proofs.Live.FrameRights.{joined_found, joined_here, joined_kept, some_rights}
use Rattle.mapdb_rights.proofs.Live.LiveOrders.{shown_live}
use Rattle.mapdb_rights.proofs.Places.PlaceWalks.{pushed}
use Rattle.mapdb_rights.proofs.Settling.Followed.{listed_into}
use Rattle.mapdb_rights.proofs.Settling.LiveRecords.{of_live}

module _ (S : State) (changes : PageChanges) (space : Space) (page shift : ℕ) where
  -- the rights of the records of these places are among those that are known
  pub record RightsHeld (passed : List OwnPlace) (known : Rights) : Type 0 where
    pub found_there : AreAsFar S changes space page shift known
    pub top : IsLive S space page root → IsJoined changes page shift known root
    pub behind : (p : OwnPlace) → stands passed p ≡ true → is_shown S space page p.id ≡ true → IsJoined changes page shift known p.id

  -- one place more
  pub rights_held_on : (rights : AreRights S (cached_in changes)) (set : Places) (lives : AreLive S set) (passed : List OwnPlace) (next : OwnPlace) (known : Rights)
      → is_listed set (listed_for (owners.Space space) next) ≡ true → RightsHeld passed known
      → RightsHeld (passed ++ next ∷ []) (joined_as_far shift (seen_in changes next.id page) known)
  rights_held_on rights set lives passed next known listed h = record {
    found_there = joined_found S changes space page shift next.id known
        (λ right has. shown_live S set space page lives.named lives.formed lives next.id
        (and_from (is_record_into (S.record_at next.id) space) (not (is_empty (rights_at S next.id page)))
        (listed_into S set space (listed_for (owners.Space space) next) (of_live S (rights_at S) set lives.listed) listed refl)
        (ap not (some_rights S changes space page shift rights next.id right has)))) h.found_there;
    top = λ there. joined_kept S changes space page shift next.id root known (h.top there);
    behind = λ p has shown. elim (pushed passed next p has) [
      | inl same ↦ subst (λ (x : OwnPlace). IsJoined changes page shift (joined_as_far shift (seen_in changes next.id page) known) x.id) same
          (joined_here S changes space page shift next.id known)
      | inr before ↦ joined_kept S changes space page shift next.id p.id known (h.behind p before shown)
    ];
  }
