-- The rights of a page, listed from one holder's.
use Rattle.std.proofs.Common.{◌≡◌, ℕ, true, false, Some, refl, sym, ap, ◌∙◌, List, [], ◌∷◌, inl, inr}
use Rattle.std.specs.Prelude.{◌==◌, Option, None, slice_get}
use Rattle.std.specs.List.{cons_option}
use Rattle.std.proofs.lemmas.Bool.{cases_Bool, cond-false, cond-true, eq-eqb, false≢true}
use Rattle.mapdb_fpage.specs.RightSets.{is_empty, no_rights}
use Rattle.mapdb_fpage.specs.declared.right_sets.Rights.{Rights}
use Rattle.mapdb_facts.proofs.RecordLemmas.Ascending.{after_at, ascending_records, before_other, listed_found}
use Rattle.mapdb_facts.proofs.Lists.SameNames.{same_id_at}
use Rattle.mapdb_facts.specs.Names.{is_before}
use Rattle.mapdb_facts.specs.Records.{AllAfter, IsAmong, IsAscending, records_of}
use Rattle.mapdb_facts.specs.State.{State, state_of}
use Rattle.mapdb_facts.specs.declared.names.RecordId.{RecordId}
use Rattle.mapdb_facts.specs.declared.operations.Op.{Op}
use Rattle.mapdb_replica.proofs.Maps.HolderNames.{ascending-holders, by_name}
use Rattle.mapdb_replica.proofs.Pages.PairLaws.{into_from}
use Rattle.mapdb_replica.specs.Issue.{holders}
use Rattle.mapdb_replica.specs.Pairs.{Pair, page_rights, holder_pair, pairs_from, with_some}
use Rattle.mapdb_replica.specs.Replica.{Log}
use Rattle.mapdb_replica.specs.Served.{holder_pairs, served, with_listed}
use Rattle.mapdb_replica.specs.declared.pieces.Holder.{Holder}
use Rattle.mapdb_rights.specs.Frame.{frame_at}
use Rattle.mapdb_rights.specs.PageRights.{is_into, pair_with}
use Rattle.mapdb_rights.specs.Right.{rights_at}
use Rattle.mapdb_sequential.proofs.Trees.Linking.{short_of}
use Rattle.mapdb_replica.proofs.Maps.HolderLists.{holder_held}
use Rattle.mapdb_sequential.proofs.Trees.PathTrees.{PathNode}
use Rattle.mapdb_sequential.proofs.Trees.Showing.{IsBare, IsHeldBy, ShowsAt}
use Rattle.mapdb_replica.proofs.Copies.OpForms.{IsFormed}
use Rattle.mapdb_sequential.proofs.Lists.Stepping.{Reflects}
use Rattle.mapdb_sequential.proofs.Unmaps.Unmapping.{frame_at-through}
use Rattle.mapdb_sequential.specs.Sequential.{HasNode, node_pairs as pairs}
use Rattle.mapdb_tree.specs.Steps.{answer_of}
use Rattle.mapdb_tree.specs.Tree.{Tree}
use Rattle.mapdb_tree.specs.declared.nodes.Page.{Page}

-- a name that comes before another is another
apart : (a b : RecordId) → is_before a b ≡ true → a ≡ b → ⊥
apart a b before same = false≢true (sym (before_other a b before) ∙ same_id_at a b same)

pair_some : (o : Option ℕ) (rights own : Rights) (frame : ℕ) → o ≡ Some frame → rights ≡ own → is_empty own ≡ false
    → pair_with o rights ≡ Some (frame, own)
pair_some o rights own frame is_frame is_rights some =
    (λ i. pair_with (is_frame i) (is_rights i)) ∙ cond-false (is_empty own) None (Some (frame, own)) some

pair_none : (o : Option ℕ) (rights : Rights) → is_empty rights ≡ true → pair_with o rights ≡ None
pair_none None rights empty_it = refl
pair_none (Some frame) rights empty_it = cond-true (is_empty rights) None (Some (frame, rights)) empty_it

module _ (S : State) (page : ℕ) where
  abbrev None_at : Holder → Type 0
  None_at h = holder_pair S page h.id ≡ None

  pairs_none : (hs : List Holder) → ((h : Holder) → IsAmong h hs → None_at h) → holder_pairs S page hs ≡ []
  pairs_none [] none = refl
  pairs_none (h ∷ rest) none = ap (λ (o : Option Pair). cons_option o (holder_pairs S page rest)) (none h (inl refl))
      ∙ pairs_none rest (λ x k. none x (inr k))

  from_none : (known : List Pair) (hs : List Holder) → ((h : Holder) → IsAmong h hs → None_at h) → pairs_from S page known hs ≡ known
  unfolding pairs_from
  from_none known [] none = refl
  from_none known (h ∷ rest) none =
      ap (λ (o : Option Pair). pairs_from S page (with_some o known) rest) (none h (inl refl)) ∙ from_none known rest (λ x k. none x (inr k))

  -- the holders behind one of this name have none
  none_behind : (id : RecordId) (h : Holder) (rest : List Holder) → AllAfter by_name h.id rest → h.id ≡ id
      → ((x : Holder) → IsAmong x (h ∷ rest) → (x.id ≡ id → ⊥) → None_at x)
      → (x : Holder) → IsAmong x rest → None_at x
  none_behind id h rest after named only x k = only x (inr k) (λ same. apart h.id x.id (after_at by_name h.id rest x after k) (named ∙ sym same))

  pairs_one : (id : RecordId) (pair : Pair) (hs : List Holder) (own : Holder) → IsAscending by_name hs → IsAmong own hs → own.id ≡ id
      → holder_pair S page id ≡ Some pair
      → ((x : Holder) → IsAmong x hs → (x.id ≡ id → ⊥) → None_at x) → holder_pairs S page hs ≡ pair ∷ []
  pairs_one id pair [] own rising k named is only = absurd k
  pairs_one id pair (h ∷ rest) own rising (inl same) named is only =
      let here : h.id ≡ id = ap by_name same ∙ named in
      ap (λ (o : Option Pair). cons_option o (holder_pairs S page rest)) (ap (holder_pair S page) here ∙ is)
      ∙ ap (λ (xs : List Pair). pair ∷ xs) (pairs_none rest (none_behind id h rest rising.0 here only))
  pairs_one id pair (h ∷ rest) own rising (inr k) named is only =
      let other : h.id ≡ id → ⊥ = (λ same. apart h.id own.id (after_at by_name h.id rest own rising.0 k) (same ∙ sym named)) in
      ap (λ (o : Option Pair). cons_option o (holder_pairs S page rest)) (only h (inl refl) other)
      ∙ pairs_one id pair rest own rising.1 k named is (λ x l. only x (inr l))

  from_one : (id : RecordId) (pair : Pair) (hs : List Holder) (own : Holder) → IsAscending by_name hs → IsAmong own hs → own.id ≡ id
      → holder_pair S page id ≡ Some pair
      → ((x : Holder) → IsAmong x hs → (x.id ≡ id → ⊥) → None_at x) → pairs_from S page [] hs ≡ pair ∷ []
  unfolding pairs_from
  from_one id pair [] own rising k named is only = absurd k
  from_one id pair (h ∷ rest) own rising (inl same) named is only =
      let here : h.id ≡ id = ap by_name same ∙ named in
      ap (λ (o : Option Pair). pairs_from S page (with_some o []) rest) (ap (holder_pair S page) here ∙ is)
      ∙ from_none (pair ∷ []) rest (none_behind id h rest rising.0 here only)
  from_one id pair (h ∷ rest) own rising (inr k) named is only =
      let other : h.id ≡ id → ⊥ = (λ same. apart h.id own.id (after_at by_name h.id rest own rising.0 k) (same ∙ sym named)) in
      ap (λ (o : Option Pair). pairs_from S page (with_some o []) rest) (only h (inl refl) other)
      ∙ from_one id pair rest own rising.1 k named is (λ x l. only x (inr l))

module _ (ops : List Op) (formed : IsFormed ops) (page : Page) where
  into : (h : Holder) → IsAmong h (holders (records_of ops) page.space) → is_into (state_of ops) page.space h.id ≡ true
  into h k = (holder_held ops page.space formed.no_root h k).0

  rising : IsAscending by_name (holders (records_of ops) page.space)
  rising = ascending-holders page.space (records_of ops) (ascending_records ops) (λ r k. formed.no_root r.id r (listed_found ops r k))

  bare_none : IsBare (state_of ops) page → (h : Holder) → IsAmong h (holders (records_of ops) page.space) → None_at (state_of ops) page.number h
  bare_none bare h k = pair_none (frame_at (state_of ops) h.id page.number) (rights_at (state_of ops) h.id page.number) (bare h.id (into h k))

  rights_none : IsBare (state_of ops) page → page_rights ops page.space page.number ≡ []
  unfolding page_rights
  rights_none bare = from_none (state_of ops) page.number [] (holders (records_of ops) page.space) (bare_none bare)

  served_none : IsBare (state_of ops) page → served ops page.space page.number ≡ None
  unfolding served
  served_none bare =
      ap (λ (xs : List Pair). with_listed (slice_get xs 0) (page_rights ops page.space page.number))
      (pairs_none (state_of ops) page.number (holders (records_of ops) page.space) (bare_none bare))

  module _ (node : PathNode) (id : RecordId) (held : IsHeldBy (state_of ops) page node id) where
    own_pair : holder_pair (state_of ops) page.number id ≡ Some (node.frame, node.rights)
    own_pair =
        pair_some (frame_at (state_of ops) id page.number) (rights_at (state_of ops) id page.number) node.rights node.frame
        (frame_at-through (state_of ops) id page.number node.frame node.above held.through) held.rights held.some

    only : (h : Holder) → IsAmong h (holders (records_of ops) page.space) → (h.id ≡ id → ⊥) → None_at (state_of ops) page.number h
    only h k other = elim (cases_Bool (is_empty (rights_at (state_of ops) h.id page.number))) [
      | inl none ↦ pair_none (frame_at (state_of ops) h.id page.number) (rights_at (state_of ops) h.id page.number) none
      | inr some ↦ absurd (other (held.alone h.id (into h k) some))
    ]

    rights_one : page_rights ops page.space page.number ≡ (node.frame, node.rights) ∷ []
    unfolding page_rights
    rights_one =
        let own = into_from ops page.space id held.into in
        from_one (state_of ops) page.number id (node.frame, node.rights) (holders (records_of ops) page.space) own.0 rising own.1 own.2 own_pair only

    served_one : served ops page.space page.number ≡ Some (node.frame, node.rights)
    unfolding served
    served_one =
        let own = into_from ops page.space id held.into in
        let listed = pairs_one (state_of ops) page.number id (node.frame, node.rights)
        (holders (records_of ops) page.space) own.0 rising own.1 own.2 own_pair only in
        (λ i. with_listed (slice_get (listed i) 0) (rights_one i))
        ∙ ap (λ (rights : Rights). Some (node.frame, rights))
        (cond-true (node.frame == node.frame) node.rights no_rights (eq-eqb node.frame node.frame refl))

-- the copy has at a page what the node has
pub has_node : (log : Log) (T : Tree) → IsFormed log.ops → Reflects log.ops T → (page : Page) → HasNode log T page
has_node log T formed is page = by_node (is.ways.node_at page) refl (is.shows.nodes page)
  where
    by_node : (o : Option PathNode) → is.ways.node_at page ≡ o → ShowsAt (state_of log.ops) page o → HasNode log T page
    by_node None at bare =
        let none : answer_of (T.node_at page) ≡ None = ap answer_of (is.like.nodes page ∙ ap short_of at) in
        record {
          rights = rights_none log.ops formed page bare ∙ ap pairs (sym none);
          served_with = served_none log.ops formed page bare ∙ sym none;
        }
    by_node (Some node) at (id, held) =
        let one : answer_of (T.node_at page) ≡ Some (node.frame, node.rights) = ap answer_of (is.like.nodes page ∙ ap short_of at) in
        record {
          rights = rights_one log.ops formed page node id held ∙ ap pairs (sym one);
          served_with = served_one log.ops formed page node id held ∙ sym one;
        }
