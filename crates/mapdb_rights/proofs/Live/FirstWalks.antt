-- The first record with a right at a page, as far as places were passed.
use Rattle.std.proofs.Common.{◌≡◌, ℕ, ◌+◌, ◌<◌, ◌≤◌, [], arith}
use Rattle.std.specs.Prelude.{None}
use Rattle.std.proofs.lemmas.Bool.{false≢true}
use Rattle.mapdb_fpage.specs.Bounds.{page_limit}
use Rattle.mapdb_facts.specs.Names.{root}
use Rattle.mapdb_facts.specs.State.{State}
use Rattle.mapdb_facts.specs.declared.names.Space.{Space}
use Rattle.mapdb_lists.specs.Changes.{PageChanges, seen_in}
use Rattle.mapdb_lists.specs.Listing.{owner_places}
use Rattle.mapdb_lists.specs.OwnPlaces.{IsSweptOn, IsSweptTo, ahead, own_list}
use Rattle.mapdb_lists.specs.declared.own_places.NextPlace.{NextPlace}
use Rattle.mapdb_lists.specs.declared.own_places.OwnPlaces.{OwnPlaces}
use Rattle.mapdb_lists.specs.declared.own_places.Sweep.{Sweep}
use Rattle.mapdb_lists.specs.declared.places.Owner.TheVariants as owners
use Rattle.mapdb_lists.specs.declared.places.Places.{Places}
use Rattle.mapdb_rights.specs.Among.{is_shown}
use Rattle.mapdb_rights.specs.First.{IsBehindFirst, IsFirstFound, IsFirstOfAll, first_where}
use Rattle.mapdb_rights.specs.LivePlaces.{AreLive}
use Rattle.mapdb_rights.specs.Live.{IsLive}
use Rattle.mapdb_rights.specs.declared.index.first_records.First.{First}
use Rattle.mapdb_rights.proofs.Live.FirstRecords.{found_where, here_where, kept_where}
use Rattle.mapdb_rights.proofs.Live.LiveOrders.{shown_live}
use Rattle.mapdb_rights.proofs.Live.PassedPlaces.{HoldsPassed, none_ahead, passed_all, passed_on}
use Rattle.mapdb_rights.proofs.Steady.ShownRuns.{meets_more}

module _ (S : State) (changes : PageChanges) (space : Space) (page : ℕ) where
  module _ (own : OwnPlaces) (end : ℕ) where
    -- none of the records of the places that were passed comes before the one that was found
    pub record FirstPassed (sweep : Sweep) (found : First) : Type 0 where
      pub found_there : IsFirstFound S changes space page found
      pub top : IsLive S space page root → IsBehindFirst changes page found root
      pub behind : HoldsPassed S space page (IsBehindFirst changes page found) own end sweep

  module _ (set : Places) (lives : AreLive S set) where
    -- where the space has no places
    pub first_alone : (found : First) → owner_places set (owners.Space space) ≡ [] → IsFirstFound S changes space page found
        → (IsLive S space page root → IsBehindFirst changes page found root) → IsFirstOfAll S changes space page found
    first_alone found none there top = record {
      found = there;
      all = passed_all S space page set lives [] none (IsBehindFirst changes page found) (page + 1) (λ inside. omega arith) top (λ p has meeting shown. absurd (false≢true has));
    }

    module _ (own : OwnPlaces) (end : ℕ) where
      -- one place more
      pub first_on : (sweep : Sweep) (next : NextPlace) (found : First) → IsSweptTo (own_list own) (ahead own) page end sweep next → FirstPassed own end sweep found
          → FirstPassed own end next.sweep (first_where (is_shown S space page next.place.id) next.place.id (seen_in changes next.place.id page) found)
      first_on sweep next found swept h =
          let name = next.place.id in
          record {
            found_there = found_where S changes space page name found (shown_live S set space page lives.named lives.formed lives name) h.found_there;
            top = λ live. kept_where S changes space page (is_shown S space page name) name root (seen_in changes name page) found (h.top live);
            behind = passed_on S space page (IsBehindFirst changes page found) (IsBehindFirst changes page (first_where (is_shown S space page name) name (seen_in changes name page) found))
                own end sweep next swept (λ id. kept_where S changes space page (is_shown S space page name) name id (seen_in changes name page) found)
                (here_where S changes space page (is_shown S space page name) name found) h.behind;
          }

      -- of fewer pages
      pub first_fewer : (least : ℕ) → least ≤ end → (sweep : Sweep) (found : First) → FirstPassed own end sweep found → FirstPassed own least sweep found
      first_fewer least fewer sweep found h = record {
        found_there = h.found_there;
        top = h.top;
        behind = λ p has meeting. h.behind p has (meets_more p page least end fewer meeting);
      }

      -- behind the last
      pub first_all : (sweep : Sweep) (found : First) → owner_places set (owners.Space space) ≡ own_list own → (page < page_limit → page < end)
          → IsSweptOn (own_list own) (ahead own) page end sweep None → FirstPassed own end sweep found → IsFirstOfAll S changes space page found
      first_all sweep found places more none h = record {
        found = h.found_there;
        all = passed_all S space page set lives (own_list own) places (IsBehindFirst changes page found) end more h.top
            (none_ahead S space page (IsBehindFirst changes page found) own end sweep none h.behind);
      }
