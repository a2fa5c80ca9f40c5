-- The rights of one frame that the records of those places have that were passed.
use Rattle.std.proofs.Common.{◌≡◌, ℕ, ◌+◌, ◌<◌, Bool, [], true, false, refl, sym, ap, ◌∙◌, inl, inr, arith}
use Rattle.std.specs.Prelude.{◌==◌, None, not, if◌then◌else◌}
use Rattle.std.proofs.lemmas.Bool.{and_from, cond-true, eq-eqb, eqb-true, false≢true}
use Rattle.mapdb_fpage.proofs.RightLemmas.{some_here}
use Rattle.mapdb_fpage.specs.Bounds.{page_limit}
use Rattle.mapdb_fpage.specs.RightSets.{includes, is_empty, no_rights, union}
use Rattle.mapdb_fpage.specs.declared.right_sets.Right.{Right}
use Rattle.mapdb_fpage.specs.declared.right_sets.Right.TheVariants.{Execute, Read, Write}
use Rattle.mapdb_fpage.specs.declared.right_sets.Rights.{Rights}
use Rattle.mapdb_facts.specs.Names.{is_first_space, root}
use Rattle.mapdb_facts.specs.State.{State}
use Rattle.mapdb_facts.specs.declared.names.RecordId.{RecordId}
use Rattle.mapdb_facts.specs.declared.names.Space.{Space}
use Rattle.mapdb_lists.specs.Changes.{PageChanges, cached_in, seen_in}
use Rattle.mapdb_lists.specs.Listing.{owner_places}
use Rattle.mapdb_lists.specs.OwnPlaces.{IsSweptOn, IsSweptTo, ahead, own_list, stands}
use Rattle.mapdb_lists.specs.declared.changes.Change.{Change}
use Rattle.mapdb_lists.specs.declared.own_places.NextPlace.{NextPlace}
use Rattle.mapdb_lists.specs.declared.own_place.OwnPlace.{OwnPlace}
use Rattle.mapdb_lists.specs.declared.own_places.OwnPlaces.{OwnPlaces}
use Rattle.mapdb_lists.specs.declared.own_places.Sweep.{Sweep}
use Rattle.mapdb_lists.specs.declared.places.Owner.TheVariants as owners
use Rattle.mapdb_lists.specs.declared.places.Places.{Places}
use Rattle.mapdb_rights.specs.Caching.{AreRights}
use Rattle.mapdb_rights.specs.First.{AreAsFar, IsAllAsFar, IsJoined, joined_as_far}
use Rattle.mapdb_rights.specs.LivePlaces.{AreLive}
use Rattle.mapdb_rights.specs.Live.{IsLive}
use Rattle.mapdb_rights.specs.PageRights.{is_record_into}
use Rattle.mapdb_rights.specs.Right.{rights_at}
use Rattle.mapdb_rights.proofs.Live.FirstRecords.{in_left, in_right, of_either}
use Rattle.mapdb_rights.proofs.Live.LiveOrders.{shown_live}
use Rattle.mapdb_rights.proofs.Live.PassedPlaces.{HoldsPassed, none_ahead, passed_all, passed_on, place_into}

none_in : (right : Right) → includes no_rights right ≡ true → ⊥
none_in Read h = false≢true h
none_in Write h = false≢true h
none_in Execute h = false≢true h

module _ (S : State) (changes : PageChanges) (space : Space) (page shift : ℕ) where
  abbrev seen : RecordId → Change
  seen id = seen_in changes id page

  -- with one record more, which has a right there if it has any
  pub joined_found : (id : RecordId) (known : Rights) → ((right : Right) → includes (seen id).rights right ≡ true → IsLive S space page id)
      → AreAsFar S changes space page shift known → AreAsFar S changes space page shift (joined_as_far shift (seen id) known)
  joined_found id known live h = by ((seen id).shift == shift) refl
    where
      by : (b : Bool) → ((seen id).shift == shift) ≡ b → AreAsFar S changes space page shift (if b then union known (seen id).rights else known)
      by false other = h
      by true same = λ right has. elim (of_either known (seen id).rights right has) [
        | inl before ↦ h right before
        | inr here ↦ record { id = id; live = live right here; far = eqb-true (seen id).shift shift same; has = here }
      ]

  pub joined_kept : (id other : RecordId) (known : Rights) → IsJoined changes page shift known other → IsJoined changes page shift (joined_as_far shift (seen id) known) other
  joined_kept id other known h far right has = by ((seen id).shift == shift)
    where
      by : (b : Bool) → includes (if b then union known (seen id).rights else known) right ≡ true
      by true = in_left known (seen id).rights right (h far right has)
      by false = h far right has

  pub joined_here : (id : RecordId) (known : Rights) → IsJoined changes page shift (joined_as_far shift (seen id) known) id
  joined_here id known far right has =
      ap (λ (r : Rights). includes r right) (cond-true ((seen id).shift == shift) (union known (seen id).rights) known (eq-eqb (seen id).shift shift far))
      ∙ in_right known (seen id).rights right has

  -- at first no rights
  pub none_found : AreAsFar S changes space page shift no_rights
  none_found right has = absurd (none_in right has)

  module _ (rights : AreRights S (cached_in changes)) where
    pub some_rights : (id : RecordId) (right : Right) → includes (seen id).rights right ≡ true → is_empty (rights_at S id page) ≡ false
    some_rights id right has = ap is_empty (sym (rights id page)) ∙ some_here (seen id).rights right has

    -- the root, where it is of the space
    pub root_live : is_first_space space ≡ true → (right : Right) → includes (seen root).rights right ≡ true → IsLive S space page root
    root_live first right has = record { into = first; has_some = some_rights root right has }

  module _ (own : OwnPlaces) (end : ℕ) where
    -- the rights of the records of the places that were passed are among those that are known
    pub record RightsPassed (sweep : Sweep) (known : Rights) : Type 0 where
      pub found_there : AreAsFar S changes space page shift known
      pub top : IsLive S space page root → IsJoined changes page shift known root
      pub behind : HoldsPassed S space page (IsJoined changes page shift known) own end sweep

  module _ (rights : AreRights S (cached_in changes)) (set : Places) (lives : AreLive S set) where
    -- where the space has no places
    pub rights_alone : (known : Rights) → owner_places set (owners.Space space) ≡ [] → AreAsFar S changes space page shift known
        → (IsLive S space page root → IsJoined changes page shift known root) → IsAllAsFar S changes space page shift known
    rights_alone known none there top = record {
      found = there;
      all = passed_all S space page set lives [] none (IsJoined changes page shift known) (page + 1) (λ inside. omega arith) top (λ p has meeting shown. absurd (false≢true has));
    }

    module _ (own : OwnPlaces) (end : ℕ) (places : owner_places set (owners.Space space) ≡ own_list own) where
      record_live : (p : OwnPlace) → stands (own_list own) p ≡ true → (right : Right) → includes (seen p.id).rights right ≡ true → IsLive S space page p.id
      record_live p held right has =
          shown_live S set space page lives.named lives.formed lives p.id
          (and_from (is_record_into (S.record_at p.id) space) (not (is_empty (rights_at S p.id page))) (place_into S set lives space (own_list own) places p held) (ap not (some_rights rights p.id right has)))

      -- one place more
      pub rights_on : (sweep : Sweep) (next : NextPlace) (known : Rights) → IsSweptTo (own_list own) (ahead own) page end sweep next → RightsPassed own end sweep known
          → RightsPassed own end next.sweep (joined_as_far shift (seen next.place.id) known)
      rights_on sweep next known swept h =
          let name = next.place.id in
          record {
            found_there = joined_found name known (record_live next.place swept.held) h.found_there;
            top = λ live. joined_kept name root known (h.top live);
            behind = passed_on S space page (IsJoined changes page shift known) (IsJoined changes page shift (joined_as_far shift (seen name) known))
                own end sweep next swept (λ id. joined_kept name id known) (λ shown. joined_here name known) h.behind;
          }

      -- behind the last
      pub rights_all : (sweep : Sweep) (known : Rights) → (page < page_limit → page < end) → IsSweptOn (own_list own) (ahead own) page end sweep None
          → RightsPassed own end sweep known → IsAllAsFar S changes space page shift known
      rights_all sweep known more none h = record {
        found = h.found_there;
        all = passed_all S space page set lives (own_list own) places (IsJoined changes page shift known) end more h.top
            (none_ahead S space page (IsJoined changes page shift known) own end sweep none h.behind);
      }
