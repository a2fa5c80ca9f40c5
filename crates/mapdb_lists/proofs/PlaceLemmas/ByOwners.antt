-- What is found by an owner, and a place more or less of it, where records and spaces stand apart.
use Rattle.std.proofs.Common.{◌≡◌, List, [], ◌∷◌, cond, refl, ap, sym, ◌∙◌}
use Rattle.std.specs.Prelude.{◌&&◌, ◌||◌, Option, Some, false, not}
use Rattle.std.specs.BTreeMap.{is_at}
use Rattle.std.specs.Map.{lookup}
use Rattle.mapdb_facts.specs.Names.{same_id, same_space}
use Rattle.mapdb_facts.specs.declared.names.RecordId.{RecordId}
use Rattle.mapdb_facts.specs.declared.names.Space as names
use Rattle.mapdb_lists.specs.declared.own_place.OwnPlace.{OwnPlace}
use Rattle.mapdb_lists.specs.declared.own_places.OwnPlaces.{OwnPlaces}
use Rattle.mapdb_lists.specs.declared.places.Owner.{Owner}
use Rattle.mapdb_lists.specs.declared.places.Owner.TheVariants.{Record, Space}
use Rattle.mapdb_lists.specs.Listing.{IsPut, IsRemoved, places_in}
use Rattle.mapdb_lists.specs.OwnPlaces.{place_cmp, stands}
use Rattle.mapdb_lists.specs.Owners.{by_owner, same_owner}

pub record_found : (records : List (RecordId × OwnPlaces)) (spaces : List (names.Space × OwnPlaces)) (id : RecordId)
    → lookup (same_owner (Record id)) (by_owner records spaces).entries ≡ lookup (same_id id) records
record_found [] [] id = refl
record_found [] (s ∷ spaces) id = record_found [] spaces id
record_found (r ∷ records) spaces id = ap (λ o. cond (same_id id r.0) (Some r.1) o) (record_found records spaces id)

pub space_found : (records : List (RecordId × OwnPlaces)) (spaces : List (names.Space × OwnPlaces)) (space : names.Space)
    → lookup (same_owner (Space space)) (by_owner records spaces).entries ≡ lookup (same_space space) spaces
space_found [] [] space = refl
space_found [] (s ∷ spaces) space = ap (λ o. cond (same_space space s.0) (Some s.1) o) (space_found [] spaces space)
space_found (r ∷ records) spaces space = space_found records spaces space

-- a place more of a record, and of a space
module _ (old new : List (RecordId × OwnPlaces)) (spaces : List (names.Space × OwnPlaces)) (id : RecordId) (place : OwnPlace)
    (h : IsPut RecordId same_id old new id place) where
  record_given : (q : Owner) → lookup (same_owner q) (by_owner new spaces).entries ≡ cond (same_owner (Record id) q) (Some h.own) (lookup (same_owner q) (by_owner old spaces).entries)
  record_given (Record q) = record_found new spaces q ∙ h.given q ∙ ap (λ o. cond (same_id id q) (Some h.own) o) (sym (record_found old spaces q))
  record_given (Space q) = space_found new spaces q ∙ sym (space_found old spaces q)

  pub record_put : IsPut Owner same_owner (by_owner old spaces).entries (by_owner new spaces).entries (Record id) place
  record_put = record {
    own = h.own;
    given = record_given;
    put = λ k. h.put k ∙ ap (λ (o : Option OwnPlaces). is_at (place_cmp place) k || stands (places_in o) k) (sym (record_found old spaces id));
  }

module _ (records : List (RecordId × OwnPlaces)) (old new : List (names.Space × OwnPlaces)) (space : names.Space) (place : OwnPlace)
    (h : IsPut names.Space same_space old new space place) where
  space_given : (q : Owner) → lookup (same_owner q) (by_owner records new).entries ≡ cond (same_owner (Space space) q) (Some h.own) (lookup (same_owner q) (by_owner records old).entries)
  space_given (Record q) = record_found records new q ∙ sym (record_found records old q)
  space_given (Space q) = space_found records new q ∙ h.given q ∙ ap (λ o. cond (same_space space q) (Some h.own) o) (sym (space_found records old q))

  pub space_put : IsPut Owner same_owner (by_owner records old).entries (by_owner records new).entries (Space space) place
  space_put = record {
    own = h.own;
    given = space_given;
    put = λ k. h.put k ∙ ap (λ (o : Option OwnPlaces). is_at (place_cmp place) k || stands (places_in o) k) (sym (space_found records old space));
  }

-- a place less of a record, and of a space
module _ (old new : List (RecordId × OwnPlaces)) (spaces : List (names.Space × OwnPlaces)) (id : RecordId) (place : OwnPlace)
    (h : IsRemoved RecordId same_id old new id place) where
  record_others : (q : Owner) → same_owner (Record id) q ≡ false → lookup (same_owner q) (by_owner new spaces).entries ≡ lookup (same_owner q) (by_owner old spaces).entries
  record_others (Record q) other = record_found new spaces q ∙ h.others q other ∙ sym (record_found old spaces q)
  record_others (Space q) other = space_found new spaces q ∙ sym (space_found old spaces q)

  pub record_removed : IsRemoved Owner same_owner (by_owner old spaces).entries (by_owner new spaces).entries (Record id) place
  record_removed = record {
    removed = λ k. ap (λ (o : Option OwnPlaces). stands (places_in o) k) (record_found new spaces id)
        ∙ h.removed k ∙ ap (λ (o : Option OwnPlaces). not (is_at (place_cmp place) k) && stands (places_in o) k) (sym (record_found old spaces id));
    others = record_others;
  }

module _ (records : List (RecordId × OwnPlaces)) (old new : List (names.Space × OwnPlaces)) (space : names.Space) (place : OwnPlace)
    (h : IsRemoved names.Space same_space old new space place) where
  space_others : (q : Owner) → same_owner (Space space) q ≡ false → lookup (same_owner q) (by_owner records new).entries ≡ lookup (same_owner q) (by_owner records old).entries
  space_others (Record q) other = record_found records new q ∙ sym (record_found records old q)
  space_others (Space q) other = space_found records new q ∙ h.others q other ∙ sym (space_found records old q)

  pub space_removed : IsRemoved Owner same_owner (by_owner records old).entries (by_owner records new).entries (Space space) place
  space_removed = record {
    removed = λ k. ap (λ (o : Option OwnPlaces). stands (places_in o) k) (space_found records new space)
        ∙ h.removed k ∙ ap (λ (o : Option OwnPlaces). not (is_at (place_cmp place) k) && stands (places_in o) k) (sym (space_found records old space));
    others = space_others;
  }
