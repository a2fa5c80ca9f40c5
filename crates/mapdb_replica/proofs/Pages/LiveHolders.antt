-- What a page shows, gathered from one live record to the next.
use Rattle.std.proofs.Common.{◌≡◌, ℕ, true, refl, sym, ap, ◌∙◌, List, [], ◌∷◌, Some}
use Rattle.std.specs.Prelude.{None, Option}
use Rattle.mapdb_facts.specs.Records.{records_of}
use Rattle.mapdb_facts.specs.State.{State, state_of}
use Rattle.mapdb_facts.specs.WellFormed.{all_formed}
use Rattle.mapdb_facts.specs.declared.names.RecordId.{RecordId}
use Rattle.mapdb_facts.specs.declared.names.Space.{Space}
use Rattle.mapdb_facts.specs.declared.operations.Op.{Op}
use Rattle.mapdb_rights.specs.Live.{IsLiveFrom, IsNextLive}
use Rattle.mapdb_replica.specs.FirstPairs.{first_from, with_later}
use Rattle.mapdb_replica.specs.Issue.{holders}
use Rattle.mapdb_replica.specs.Pairs.{Pair, page_rights, holder_pair, pairs_from, with_some}
use Rattle.mapdb_replica.specs.Served.{served}
use Rattle.mapdb_replica.specs.declared.pieces.Holder.{Holder}
use Rattle.mapdb_replica.proofs.Pages.HolderWalks.{all_later, later, live_end, live_next, over}
use Rattle.mapdb_replica.proofs.Pages.ServedPages.{found_all}

-- a pair more, where there is one
abbrev with_more : List Pair → Option Pair → List Pair
with_more pairs pair = with_some pair pairs

idle_pairs : (pairs : List Pair) → with_more pairs None ≡ pairs
idle_pairs pairs = refl

idle_later : (found : Option Pair) → with_later found None ≡ found
idle_later None = refl
idle_later (Some pair) = refl

first_over : (S : State) (page : ℕ) (found : Option Pair) (hs : List Holder) → first_from S page found hs ≡ over S page with_later idle_later found hs
unfolding first_from
first_over S page found [] = refl
first_over S page found (h ∷ hs) = first_over S page (with_later found (holder_pair S page h.id)) hs

pairs_over : (S : State) (page : ℕ) (pairs : List Pair) (hs : List Holder) → pairs_from S page pairs hs ≡ over S page with_more idle_pairs pairs hs
unfolding pairs_from
pairs_over S page pairs [] = refl
pairs_over S page pairs (h ∷ hs) = pairs_over S page (with_more pairs (holder_pair S page h.id)) hs

-- at the start all are left
pub first_start : (S : State) (page : ℕ) (hs : List Holder) → first_from S page None (later None hs) ≡ first_from S page None hs
first_start S page hs = ap (λ (xs : List Holder). first_from S page None xs) (all_later hs)

pub pairs_start : (S : State) (page : ℕ) (hs : List Holder) → pairs_from S page [] (later None hs) ≡ pairs_from S page [] hs
pairs_start S page hs = ap (λ (xs : List Holder). pairs_from S page [] xs) (all_later hs)

module _ (ops : List Op) (space : Space) (page : ℕ) (all : all_formed ops ≡ true) where
  abbrev hs : List Holder
  hs = holders (records_of ops) space

  pub first_next : (after : Option RecordId) (id : RecordId) (found next total : Option Pair) → IsNextLive (state_of ops) space page after id
      → next ≡ with_later found (holder_pair (state_of ops) page id) → first_from (state_of ops) page found (later after hs) ≡ total
      → first_from (state_of ops) page next (later (Some id) hs) ≡ total
  first_next after id found next total live is so_far =
      ap (λ (o : Option Pair). first_from (state_of ops) page o (later (Some id) hs)) is
      ∙ first_over (state_of ops) page (with_later found (holder_pair (state_of ops) page id)) (later (Some id) hs)
      ∙ sym (live_next ops space page all with_later idle_later after id live found)
      ∙ sym (first_over (state_of ops) page found (later after hs))
      ∙ so_far

  pub first_end : (after : Option RecordId) (found : Option Pair) → IsLiveFrom (state_of ops) space page after None
      → first_from (state_of ops) page found (later after hs) ≡ first_from (state_of ops) page None hs → found ≡ served ops space page
  unfolding served page_rights
  first_end after found none so_far =
      sym (first_over (state_of ops) page found (later after hs) ∙ live_end ops space page all with_later idle_later after none found)
      ∙ so_far ∙ found_all (state_of ops) page hs

  pub pairs_next : (after : Option RecordId) (id : RecordId) (pairs next total : List Pair) → IsNextLive (state_of ops) space page after id
      → next ≡ with_some (holder_pair (state_of ops) page id) pairs → pairs_from (state_of ops) page pairs (later after hs) ≡ total
      → pairs_from (state_of ops) page next (later (Some id) hs) ≡ total
  pairs_next after id pairs next total live is so_far =
      ap (λ (ps : List Pair). pairs_from (state_of ops) page ps (later (Some id) hs)) is
      ∙ pairs_over (state_of ops) page (with_some (holder_pair (state_of ops) page id) pairs) (later (Some id) hs)
      ∙ sym (live_next ops space page all with_more idle_pairs after id live pairs)
      ∙ sym (pairs_over (state_of ops) page pairs (later after hs))
      ∙ so_far

  pub pairs_end : (after : Option RecordId) (pairs : List Pair) → IsLiveFrom (state_of ops) space page after None
      → pairs_from (state_of ops) page pairs (later after hs) ≡ pairs_from (state_of ops) page [] hs → pairs ≡ page_rights ops space page
  unfolding page_rights
  pairs_end after pairs none so_far =
      sym (pairs_over (state_of ops) page pairs (later after hs) ∙ live_end ops space page all with_more idle_pairs after none pairs)
      ∙ so_far
