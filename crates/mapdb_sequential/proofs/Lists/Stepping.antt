-- What the tree is after one command, beside the state.
use Rattle.std.proofs.Common.{◌≡◌, ℕ, Bool, true, false, Some, refl, sym, ap, subst, ◌∙◌, List, [], ◌∷◌, inl, inr, arith}
use Rattle.std.specs.Prelude.{◌||◌, Option, None, if◌then◌else◌, IfSome, nat_le, ◌≤◌, ◌+◌, ◌⊎◌}
use Rattle.std.proofs.lemmas.Bool.{lt-ltb, cases_Bool, cond-false, leb-true}
use Rattle.std.proofs.lemmas.Bool.Decides.{nat_tests}
use mathlib.Core.Bool.{or-false}
use Rattle.mapdb_fpage.proofs.Meets.{holds_range}
use Rattle.mapdb_fpage.specs.Bounds.{page_limit}
use Rattle.mapdb_fpage.specs.Place.{IsPlace, Place, holds, page_total, whole}
use Rattle.mapdb_fpage.specs.declared.items.Transfer.{Transfer}
use Rattle.mapdb_fpage.specs.declared.right_sets.Rights.{Rights}
use Rattle.mapdb_facts.proofs.Lists.SameNames.{same_space_true}
use Rattle.mapdb_facts.specs.Names.{is_first_space, is_root_number, same_space}
use Rattle.mapdb_facts.proofs.Lists.SameNames.{not_first_space}
use Rattle.mapdb_facts.specs.State.{join, state_of}
use Rattle.mapdb_facts.specs.declared.names.Space.{Space}
use Rattle.mapdb_facts.specs.declared.operations.Op.{Op}
use Rattle.mapdb_facts.specs.declared.operations.Op.TheVariants.{Closed}
use Rattle.mapdb_replica.specs.Issue.{map_candidates}
use Rattle.mapdb_replica.specs.Unmap.{unmap_candidates}
use Rattle.mapdb_sequential.proofs.Lists.Ending.{shows_after_end}
use Rattle.mapdb_sequential.proofs.Lists.Issued.{issued, state_of_issued}
use Rattle.mapdb_sequential.proofs.Unmaps.LinkedUnmap.{short_end, short_unmap}
use Rattle.mapdb_sequential.proofs.Trees.Linking.{IsShort, both_short, brought_short, short_map, short_same}
use Rattle.mapdb_sequential.proofs.Maps.MapLists.{is_mapped}
use Rattle.mapdb_sequential.proofs.Maps.Mapping.{shows_after_map}
use Rattle.mapdb_replica.proofs.Unmaps.SharedPlaces.{number_behind, whole_holds}
use Rattle.mapdb_sequential.proofs.Trees.PathTrees.{PathNode, PathTree, is_path_taken, path_after_end, path_after_map, path_after_unmap, path_brought, path_handed}
use Rattle.mapdb_sequential.proofs.Trees.Showing.{Shows}
use Rattle.mapdb_replica.proofs.Copies.OpForms.{IsFormed}
use Rattle.mapdb_sequential.proofs.Lists.StateSteps.{IsEndedState, IsKept, IsTransfer}
use Rattle.mapdb_sequential.proofs.Unmaps.UnmapLists.{is_unmapped}
use Rattle.mapdb_sequential.proofs.Unmaps.UnmapShown.{shows_after_unmap}
use Rattle.mapdb_tree.specs.Steps.{AfterMap, AfterUnmap, AreSame, map_refusal, occupied_refusal}
use Rattle.mapdb_tree.specs.Tree.{IsEnded, Tree, are_both, brought, is_occupied, occupied}
use Rattle.mapdb_tree.specs.declared.faults.TreeFault.{TreeFault}
use Rattle.mapdb_tree.specs.declared.nodes.Page.{Page}
use Rattle.mapdb_tree.proofs.Least.{least-none}
use Rattle.mapdb_facts.proofs.States.Joins.{join_nothing}
use Rattle.mapdb_facts.proofs.States.Newness.{first_of_none}

is_over_join : (ops : List Op) (space : Space) → IsFormed ops → is_first_space space ≡ false
    → IsEndedState (state_of ops) (join (state_of ops) (state_of (Closed space ∷ []))) space whole
is_over_join ops space kept not_first = record {
  records = λ id. first_of_none ((state_of ops).record_at id);
  cuts = λ id page right. or-false ((state_of ops).is_cut id page right);
  ends = λ other. ap (λ (b : Bool). (state_of ops).is_ended other || b) (or-false (same_space space other));
  not_first = not_first;
  complete = λ id r page held inside. in_whole r.place page (kept.places id r held) inside;
}
  where
    in_whole : (place : Place) (page : ℕ) → IsPlace place → holds place page ≡ true → holds whole page ≡ true
    in_whole place page is inside =
        let range = holds_range place page inside in
        whole_holds page (lt-ltb page page_limit (omega (arith, is.in_space)))

-- a tree that reflects what these operations say, by a tree of whole ways up
pub record Reflects (ops : List Op) (T : Tree) : Type 0 where
  pub ways : PathTree
  pub shows : Shows ways (state_of ops)
  pub like : IsShort T ways

-- nothing issued, nothing changed
unchanged : (ops : List Op) (T T' : Tree) → Reflects ops T → AreSame T T' → Reflects (issued ops []) T'
unchanged ops T T' is same = record {
  ways = is.ways;
  shows = subst (Shows is.ways) (sym (state_of_issued ops [] ∙ join_nothing (state_of ops))) is.shows;
  like = short_same T T' is.ways is.like same;
}

-- a search that finds no page found none that passes
not_first : (b : Bool) (first : ℕ) (rest : Option ℕ) → (if b then Some first else rest) ≡ None → (b ≡ false) × (rest ≡ None)
not_first true first rest h = absurd (no_number h)
  where
    no_number : Some first ≡ None → ⊥
    no_number e = cc
not_first false first rest h = (refl, h)

here_or_later : (first page : ℕ) → first ≤ page → (first ≡ page) ⊎ (first + 1 ≤ page)
here_or_later first page low = elim (cases_Bool (nat_le page first)) [
  | inl here ↦ let le : page ≤ first = leb-true page first here in inl (omega arith)
  | inr behind ↦ inr (grind (arith, nat_tests))
]

-- what does not refuse
pub not_refused : (b : Bool) (fault : TreeFault) (rest : Option TreeFault) → (if b then Some fault else rest) ≡ None
    → (b ≡ false) × (rest ≡ None)
not_refused true fault rest h = absurd (no_fault h)
  where
    no_fault : Some fault ≡ None → ⊥
    no_fault e = cc
not_refused false fault rest h = (refl, h)

pub not_occupied : (receiver : Space) (o : Option ℕ) → occupied_refusal receiver o ≡ None → o ≡ None
not_occupied receiver None h = refl
not_occupied receiver (Some number) h = absurd (no_fault (occupied_refusal receiver (Some number)) refl h)
  where
    no_fault : (o : Option TreeFault) → occupied_refusal receiver (Some number) ≡ o → o ≡ None → ⊥
    no_fault None e h = cc
    no_fault (Some fault) e h = cc

-- where the search finds nothing, no page is taken
pub free_of : (T : Tree) (U : PathTree) → IsShort T U → (sender receiver : Space) (t : Transfer) → occupied T sender t receiver ≡ None
    → (page : Page) → same_space receiver page.space ≡ true → is_path_taken (path_brought U sender t.source t.target t.rights page.number)
    (U.node_at page) ≡ false
free_of T U is sender receiver t none page into = elim (cases_Bool (holds t.target page.number)) [
  | inl inside ↦
      let range = holds_range t.target page.number inside in
      let open_to = least-none t.target.first_page (page_total t.target) (is_occupied T sender t receiver) none page.number range.0 range.1 in
      let there : record { space = receiver; number = page.number } ≡ page =
      (let same : receiver ≡ page.space = same_space_true receiver page.space into in λ i. record { space = same i; number = page.number }) in
      sym (both_short (path_brought U sender t.source t.target t.rights page.number) (U.node_at page))
      ∙ sym (λ i. are_both (brought_short T U is sender t page.number i) (is.nodes page i))
      ∙ ap (λ (x : Page). are_both (brought T sender t page.number) (T.node_at x)) (sym there)
      ∙ open_to
  | inr out ↦
      ap (λ (o : Option PathNode). is_path_taken o (U.node_at page))
      (cond-false (holds t.target page.number) (path_handed (U.node_at (behind page.number)) (behind page.number) t.rights) None out)
]
  where
    behind : ℕ → Page
    behind number = record { space = sender; number = number_behind t.source t.target number }

pub map_step : (ops : List Op) (processor : ℕ) (sender receiver : Space) (o : Option Transfer) (T T' : Tree) → IsKept ops → IfSome o IsTransfer
    → Reflects ops T
    → map_refusal T sender o receiver ≡ None → AfterMap T sender o receiver T'
    → Reflects (issued ops (map_candidates ops processor sender o receiver)) T'
map_step ops processor sender receiver None T T' kept good is refused same = unchanged ops T T' is same
map_step ops processor sender receiver (Some t) T T' kept good is refused same =
    let a = not_refused (T.is_over sender) _ _ refused in
    let b = not_refused (T.is_over receiver) _ _ a.1 in
    let c = not_refused (is_root_number receiver) _ _ b.1 in
    let free = free_of T is.ways is.like sender receiver t (not_occupied receiver (occupied T sender t receiver) c.1) in
    let alive : (state_of ops).is_ended receiver ≡ false = sym (is.like.over receiver ∙ is.shows.ends receiver) ∙ b.0 in
    let all : List Op = map_candidates ops processor sender (Some t) receiver in
    let done = is_mapped ops kept.form processor sender receiver t.source t.target t.rights good.from good.to good.size alive (not_first_space receiver c.0) in
    record {
      ways = path_after_map is.ways sender t.source receiver t.target t.rights;
      shows = subst (Shows (path_after_map is.ways sender t.source receiver t.target t.rights)) (sym (state_of_issued ops all))
          (shows_after_map (state_of ops) (join (state_of ops)
          (state_of all)) sender t.source receiver t.target t.rights kept.grown done is.ways is.shows free);
      like = short_map T T' is.ways sender receiver t free is.like same;
    }

pub unmap_step : (ops : List Op) (space : Space) (o : Option Place) (rights : Rights) (flush : Bool) (T T' : Tree) → IsKept ops → IfSome o IsPlace
    → Reflects ops T
    → AfterUnmap T space o rights flush T' → Reflects (issued ops (unmap_candidates ops space o rights flush)) T'
unmap_step ops space None rights flush T T' kept good is same = unchanged ops T T' is same
unmap_step ops space (Some part) rights flush T T' kept good is after =
    let all : List Op = unmap_candidates ops space (Some part) rights flush in
    let done = is_unmapped ops kept.form space part good rights flush in
    record {
      ways = path_after_unmap is.ways space part rights flush;
      shows = subst (Shows (path_after_unmap is.ways space part rights flush)) (sym (state_of_issued ops all))
          (shows_after_unmap (state_of ops) (join (state_of ops) (state_of all)) space part rights flush done is.ways is.shows);
      like = short_unmap T T' is.ways space part rights flush is.like after;
    }

pub end_step : (ops : List Op) (space : Space) (T T' : Tree) → IsKept ops → is_first_space space ≡ false → Reflects ops T → IsEnded T space T'
    → Reflects (issued ops (Closed space ∷ [])) T'
end_step ops space T T' kept later is after = record {
  ways = path_after_end is.ways space whole;
  shows = subst (Shows (path_after_end is.ways space whole)) (sym (state_of_issued ops (Closed space ∷ [])))
      (shows_after_end (state_of ops) (join (state_of ops) (state_of (Closed space ∷ []))) space whole
      (is_over_join ops space kept.form later) is.ways is.shows);
  like = short_end T T' is.ways space is.like after;
}
