-- What the records of those places have at a page that were passed.
use Rattle.std.proofs.Common.{◌≡◌, ℕ, ◌+◌, ◌<◌, Bool, true, false, List, [], ◌∷◌, Some, refl, sym, ap, subst, ◌∙◌, inl, inr, arith}
use Rattle.std.specs.Prelude.{None, Option, not, if◌then◌else◌}
use Rattle.std.proofs.lemmas.Bool.{and_from, cond-false, false≢true}
use Rattle.mapdb_fpage.proofs.RightLemmas.{some_of}
use Rattle.mapdb_fpage.specs.Bounds.{page_limit}
use Rattle.mapdb_fpage.specs.RightSets.{is_empty}
use Rattle.mapdb_fpage.specs.declared.right_sets.Rights.{Rights}
use Rattle.mapdb_facts.proofs.Lists.Among.{among_append, among_left, among_right}
use Rattle.mapdb_facts.specs.Names.{root}
use Rattle.mapdb_facts.specs.Records.{IsAmong}
use Rattle.mapdb_facts.specs.State.{State}
use Rattle.mapdb_facts.specs.declared.names.RecordId.{RecordId}
use Rattle.mapdb_facts.specs.declared.names.Space.{Space}
use Rattle.mapdb_lists.specs.Listing.{owner_places}
use Rattle.mapdb_lists.specs.OwnPlaces.{IsSweptOn, IsSweptTo, ahead, own_list, stands}
use Rattle.mapdb_lists.specs.declared.own_places.NextPlace.{NextPlace}
use Rattle.mapdb_lists.specs.declared.own_place.OwnPlace.{OwnPlace}
use Rattle.mapdb_lists.specs.declared.own_places.OwnPlaces.{OwnPlaces}
use Rattle.mapdb_lists.specs.declared.own_places.Sweep.{Sweep}
use Rattle.mapdb_lists.specs.declared.places.Owner.TheVariants as owners
use Rattle.mapdb_lists.specs.declared.places.Places.{Places}
use Rattle.mapdb_rights.specs.Among.{is_shown}
use Rattle.mapdb_rights.specs.LivePlaces.{AreLive}
use Rattle.mapdb_rights.specs.Frame.{frame_at}
use Rattle.mapdb_rights.specs.Live.{IsLive}
use Rattle.mapdb_rights.specs.PagePairs.{ArePagePairs, AreShown, HasPairAmong, IsShownPair, with_shown}
use Rattle.mapdb_rights.specs.PageRights.{is_record_into, pair_at, pair_with}
use Rattle.mapdb_rights.specs.Right.{rights_at}
use Rattle.mapdb_rights.proofs.Live.LiveOrders.{shown_live}
use Rattle.mapdb_rights.proofs.Live.PassedPlaces.{HoldsPassed, none_ahead, passed_all, passed_on, place_into}
use Rattle.mapdb_rights.proofs.Live.ServedPages.{right_in}
use Rattle.mapdb_rights.proofs.Rights.Backed.{frame_at-right}

abbrev pub Pair : Type 0
Pair = ℕ × Rights

-- ---- a pair and what it is made of

-- the parts of a pair
pub record IsMadeOf (frame : Option ℕ) (rights : Rights) (pair : ℕ × Rights) : Type 0 where
  pub frame_is : frame ≡ Some pair.0
  pub rights_are : rights ≡ pair.1
  pub some : is_empty rights ≡ false

pub pair_parts : (frame : Option ℕ) (rights : Rights) (pair : ℕ × Rights) → pair_with frame rights ≡ Some pair → IsMadeOf frame rights pair
pair_parts None rights pair is = cc
pair_parts (Some frame) rights pair is = by (is_empty rights) refl is
  where
    by : (b : Bool) → is_empty rights ≡ b → (if b then None else Some (frame, rights)) ≡ Some pair → IsMadeOf (Some frame) rights pair
    by true empty e = cc
    by false some e =
        let same : (frame, rights) ≡ pair = cc in
        record { frame_is = λ i. Some (same i).0; rights_are = λ i. (same i).1; some = some }

pub pair_of_parts : (frame : ℕ) (rights : Rights) → is_empty rights ≡ false → pair_with (Some frame) rights ≡ Some (frame, rights)
pair_of_parts frame rights some = cond-false (is_empty rights) None (Some (frame, rights)) some

-- ---- what records have there

module _ (S : State) (space : Space) (page : ℕ) where
  -- a record with a right has a pair
  pub live_pair : (id : RecordId) → is_empty (rights_at S id page) ≡ false → (pair : ℕ × Rights) × (pair_at S id page ≡ Some pair)
  live_pair id some =
      let right = some_of (rights_at S id page) some in
      let framed = frame_at-right S id page right.0 (sym (right_in S id page right.0) ∙ right.1) in
      ((framed.0, rights_at S id page), ap (λ (o : Option ℕ). pair_with o (rights_at S id page)) framed.1 ∙ pair_of_parts framed.0 (rights_at S id page) some)

  -- with the pair of one record more
  pub shown_with : (id : RecordId) (pairs : List Pair) → (is_empty (rights_at S id page) ≡ false → IsLive S space page id) → AreShown S space page pairs
      → AreShown S space page (with_shown (pair_at S id page) pairs)
  shown_with id pairs live h = by (pair_at S id page) refl
    where
      by : (o : Option Pair) → pair_at S id page ≡ o → AreShown S space page (with_shown o pairs)
      by None is = h
      by (Some pair) is = λ other among. elim (among_append pairs (pair ∷ []) other among) [
        | inl before ↦ h other before
        | inr here ↦ last other here
      ]
        where
          last : (other : Pair) → IsAmong other (pair ∷ []) → IsShownPair S space page other
          last other (inl e) = record { id = id; live = live (pair_parts (frame_at S id page) (rights_at S id page) pair is).some; is = is ∙ ap Some e }
          last other (inr none) = absurd none

  pub among_kept : (o : Option Pair) (pairs : List Pair) (id : RecordId) → HasPairAmong S page pairs id → HasPairAmong S page (with_shown o pairs) id
  among_kept None pairs id h = h
  among_kept (Some pair) pairs id h = record { pair = h.pair; is = h.is; among = among_left pairs (pair ∷ []) h.pair h.among }

  pub among_here : (id : RecordId) (pairs : List Pair) → is_empty (rights_at S id page) ≡ false → HasPairAmong S page (with_shown (pair_at S id page) pairs) id
  among_here id pairs some =
      let own = live_pair id some in
      let among : IsAmong own.0 (with_shown (Some own.0) pairs) = among_right pairs (own.0 ∷ []) own.0 (inl refl) in
      record { pair = own.0; is = own.1; among = subst (λ (o : Option Pair). IsAmong own.0 (with_shown o pairs)) (sym own.1) among }

  module _ (own : OwnPlaces) (end : ℕ) where
    -- the pairs of the records of the places that were passed are there
    pub record PairsPassed (sweep : Sweep) (pairs : List Pair) : Type 0 where
      pub shown : AreShown S space page pairs
      pub top : IsLive S space page root → HasPairAmong S page pairs root
      pub behind : HoldsPassed S space page (HasPairAmong S page pairs) own end sweep

  module _ (set : Places) (lives : AreLive S set) where
    -- where the space has no places
    pub pairs_alone : (pairs : List Pair) → owner_places set (owners.Space space) ≡ [] → AreShown S space page pairs
        → (IsLive S space page root → HasPairAmong S page pairs root) → ArePagePairs S space page pairs
    pairs_alone pairs none shown top = record {
      shown = shown;
      all = passed_all S space page set lives [] none (HasPairAmong S page pairs) (page + 1) (λ inside. omega arith) top (λ p has meeting shown. absurd (false≢true has));
    }

    shown_some : (id : RecordId) → is_shown S space page id ≡ true → is_empty (rights_at S id page) ≡ false
    shown_some id shown = (shown_live S set space page lives.named lives.formed lives id shown).has_some

    module _ (own : OwnPlaces) (end : ℕ) (places : owner_places set (owners.Space space) ≡ own_list own) where
      record_live : (p : OwnPlace) → stands (own_list own) p ≡ true → is_empty (rights_at S p.id page) ≡ false → IsLive S space page p.id
      record_live p held some =
          shown_live S set space page lives.named lives.formed lives p.id
          (and_from (is_record_into (S.record_at p.id) space) (not (is_empty (rights_at S p.id page))) (place_into S set lives space (own_list own) places p held) (ap not some))

      -- one place more
      pub pairs_on : (sweep : Sweep) (next : NextPlace) (pairs : List Pair) → IsSweptTo (own_list own) (ahead own) page end sweep next → PairsPassed own end sweep pairs
          → PairsPassed own end next.sweep (with_shown (pair_at S next.place.id page) pairs)
      pairs_on sweep next pairs swept h =
          let name = next.place.id in
          record {
            shown = shown_with name pairs (record_live next.place swept.held) h.shown;
            top = λ live. among_kept (pair_at S name page) pairs root (h.top live);
            behind = passed_on S space page (HasPairAmong S page pairs) (HasPairAmong S page (with_shown (pair_at S name page) pairs))
                own end sweep next swept (among_kept (pair_at S name page) pairs) (λ shown. among_here name pairs (shown_some name shown)) h.behind;
          }

      -- behind the last
      pub pairs_all : (sweep : Sweep) (pairs : List Pair) → (page < page_limit → page < end) → IsSweptOn (own_list own) (ahead own) page end sweep None
          → PairsPassed own end sweep pairs → ArePagePairs S space page pairs
      pairs_all sweep pairs more none h = record {
        shown = h.shown;
        all = passed_all S space page set lives (own_list own) places (HasPairAmong S page pairs) end more h.top
            (none_ahead S space page (HasPairAmong S page pairs) own end sweep none h.behind);
      }
