-- An Unmap, by what pages came from, is an Unmap of the tree of whole ways up.
use Rattle.std.proofs.Common.{◌≡◌, ℕ, zero, suc, Bool, true, false, Some, refl, sym, ap, subst, ◌∙◌, List, [], ◌∷◌, inl, inr}
use Rattle.std.specs.Prelude.{◌⊎◌, ◌&&◌, ◌||◌, not, Option, None, if◌then◌else◌}
use Rattle.std.proofs.lemmas.Bool.{or_cases, and_parts, and_from, cond-false, false≢true, cases_Bool, cond-true, or_right, or_left}
use Rattle.mapdb_fpage.specs.Place.{Place, whole}
use Rattle.mapdb_fpage.specs.RightSets.{all_rights, includes, is_empty, without}
use Rattle.mapdb_fpage.specs.declared.right_sets.Right.{Right}
use Rattle.mapdb_fpage.specs.declared.right_sets.Rights.{Rights}
use Rattle.mapdb_facts.specs.Names.{same_space}
use Rattle.mapdb_facts.specs.declared.names.Space.{Space}
use Rattle.mapdb_replica.specs.Replica.{empty}
use Rattle.mapdb_sequential.proofs.Trees.Linking.{AreLinked, IsLinked, IsShort, nearest, no_path, same_path, short, short_of}
use Rattle.mapdb_sequential.proofs.Trees.PathTrees.{PathNode, PathTree, goes_through, is_path_reached, path_after_end, path_after_unmap, path_unmapped, path_with}
use Rattle.mapdb_fpage.proofs.RightLemmas.{some_here, some_of}
use Rattle.mapdb_tree.specs.Tree.{IsBelow, IsEnded, IsReached, IsUnmapped, LeadsTo, Tree, is_in_part, lessened, node_with}
use Rattle.mapdb_tree.specs.declared.nodes.Node.{Node}
use Rattle.mapdb_tree.specs.declared.nodes.Page.{Page}
use Rattle.mapdb_facts.proofs.States.Newness.{without_is}

-- what an Unmap leaves of rights
abbrev left : Bool → Rights → Rights → Rights
left b rights a = if b then without a rights else a

left_sub : (u v : Bool) (rights a c : Rights) → (u ≡ true → v ≡ true) → ((right : Right) → includes a right ≡ true → includes c right ≡ true)
    → (right : Right) → includes (left v rights a) right ≡ true → includes (left u rights c) right ≡ true
left_sub u true rights a c keeps sub right h =
    let parts = and_parts (includes a right) (not (includes rights right)) (sym (without_is a rights right) ∙ h) in
    by_test u (sub right parts.0) parts.1
  where
    by_test : (b : Bool) → includes c right ≡ true → not (includes rights right) ≡ true → includes (left b rights c) right ≡ true
    by_test true has uncut = without_is c rights right ∙ and_from (includes c right) (not (includes rights right)) has uncut
    by_test false has uncut = has
left_sub true false rights a c keeps sub right h = absurd (false≢true (keeps refl))
left_sub false false rights a c keeps sub right h = sub right h

-- a node that an Unmap leaves
record IsLeft (b : Bool) (rights : Rights) (node new : PathNode) : Type 0 where
  above : new.above ≡ node.above
  rights_are : new.rights ≡ left b rights node.rights
  some : is_empty new.rights ≡ false

left_is : (b : Bool) (rights : Rights) (node new : PathNode) → is_empty node.rights ≡ false
    → (if b then path_with node (without node.rights rights) else Some node) ≡ Some new → IsLeft b rights node new
left_is true rights node new some e = by_test (is_empty (without node.rights rights)) refl e
  where
    by_test : (b : Bool) → is_empty (without node.rights rights) ≡ b
        → (if b then None else Some (record { frame = node.frame; rights = without node.rights rights; above = node.above })) ≡ Some new
        → IsLeft true rights node new
    by_test true empty h = absurd (no_path new h)
    by_test false empty h =
        subst (IsLeft true rights node) (same_path (record { frame = node.frame; rights = without node.rights rights; above = node.above }) new h)
        (record { above = refl; rights_are = refl; some = empty })
left_is false rights node new some e = subst (IsLeft false rights node) (same_path node new e)
    (record { above = refl; rights_are = refl; some = some })

-- a node that keeps a right stays
stays : (b : Bool) (rights : Rights) (node : PathNode) (right : Right) → includes (left b rights node.rights) right ≡ true
    → (new : PathNode) × ((if b then path_with node (without node.rights rights) else Some node) ≡ Some new) × (new.above ≡ node.above)
    × (new.rights ≡ left b rights node.rights)
stays true rights node right has = (
  record { frame = node.frame; rights = without node.rights rights; above = node.above },
  cond-false (is_empty (without node.rights rights)) None (Some
      (record { frame = node.frame; rights = without node.rights rights; above = node.above })) (some_here (without node.rights rights) right has),
  refl,
  refl,
)
stays false rights node right has = (node, refl, refl, refl)

module _ (T : PathTree) (space : Space) (part : Place) (rights : Rights) (flush : Bool) (ways : AreLinked T) where
  from_node : (spot : Page) (new : PathNode) (o : Option PathNode) → T.node_at spot ≡ o → path_unmapped space part rights flush spot o ≡ Some new
      → (node : PathNode) × (T.node_at spot ≡ Some node) × IsLeft (is_path_reached space part flush spot node) rights node new
  from_node spot new None held e = absurd (no_path new e)
  from_node spot new (Some node) held e = (
    node,
    held,
    left_is (is_path_reached space part flush spot node) rights node new
        (ways.some spot node held) e,
  )

  or_then : (a b c d : Bool) → (a || (b && c)) ≡ true → ((c || a) || d) ≡ true
  or_then true b true d h = refl
  or_then true b false d h = refl
  or_then false b true d h = refl
  or_then false true false d h = absurd (false≢true h)
  or_then false false false d h = absurd (false≢true h)

  link_left : (spot : Page) (node new : PathNode) (above : List Page)
      → IsLeft (goes_through space part above || (flush && is_in_part space part spot)) rights node new → IsLinked T node.rights above
      → IsLinked (path_after_unmap T space part rights flush) new.rights above
  link_left spot node new [] is linked = tt
  link_left spot node new (first ∷ spots) is (up, held, same, sub) =
      let kept : ((right : Right) → includes new.rights right ≡ true
      → includes (left (is_path_reached space part flush first up) rights up.rights) right ≡ true)
      = λ right h. left_sub (is_path_reached space part flush first up)
      (goes_through space part (first ∷ spots) || (flush && is_in_part space part spot)) rights node.rights up.rights
      (λ k. or_then (goes_through space part spots) flush (is_in_part space part first) (flush && is_in_part space part spot)
      (subst (λ (x : List Page). (goes_through space part x || (flush && is_in_part space part first)) ≡ true) same k))
      sub right (ap (λ (a : Rights). includes a right) (sym is.rights_are) ∙ h) in
      let right = some_of new.rights is.some in
      let there = stays (is_path_reached space part flush first up) rights up right.0 (kept right.0 right.1) in (
        there.0,
        ap (path_unmapped space part rights flush first) held ∙ there.1,
        there.2 ∙ same,
        λ b h. ap (λ (a : Rights). includes a b) there.3 ∙ kept b h,
      )

  pub linked_unmap : AreLinked (path_after_unmap T space part rights flush)
  linked_unmap = record {
    some = λ spot new e. (from_node spot new (T.node_at spot) refl e).2.some;
    linked = λ spot new e. (let from = from_node spot new (T.node_at spot) refl e in
        subst (IsLinked (path_after_unmap T space part rights flush) new.rights) (sym from.2.above)
        (link_left spot from.0 new from.0.above from.2 (ways.linked spot from.0 from.1)));
  }

same_short : (a b : Node) → Some a ≡ Some b → a ≡ b
same_short a b e = cc

no_short : (a : Node) → None ≡ Some a → ⊥
no_short a e = cc

same_page : (a b : Page) → Some a ≡ Some b → a ≡ b
same_page a b e = cc

no_page : (a : Page) → None ≡ Some a → ⊥
no_page a e = cc

module _ (T : Tree) (U : PathTree) (is : IsShort T U) (space : Space) (part : Place) where
  -- the way begins with the parent
  way_of : (page : Page) (node : PathNode) (found : Node) (parent : Page) → U.node_at page ≡ Some node → T.node_at page ≡ Some found
      → found.parent ≡ Some parent
      → (above : List Page) × (node.above ≡ parent ∷ above)
  way_of page node found parent held at from = by_way node.above refl
    where
      first_is : nearest node.above ≡ Some parent
      first_is = ap (λ (x : Node). x.parent) (same_short (short node) found (ap short_of (sym held) ∙ sym (is.nodes page) ∙ at)) ∙ from

      by_way : (ways : List Page) → node.above ≡ ways → (above : List Page) × (node.above ≡ parent ∷ above)
      by_way [] e = absurd (no_page parent (ap nearest (sym e) ∙ first_is))
      by_way (first ∷ above) e = (above, e ∙ ap (λ (x : Page). x ∷ above) (same_page first parent (ap nearest (sym e) ∙ first_is)))

  -- steps up along parents go along the way
  leads_in : (steps : ℕ) (page top : Page) (node : PathNode) → U.node_at page ≡ Some node → LeadsTo T (suc steps) page top
      → is_in_part space part top ≡ true → goes_through space part node.above ≡ true
  leads_in zero page top node held (found, parent, at, from, same) among =
      let way = way_of page node found parent held at from in
      ap (goes_through space part) way.1 ∙ or_left (is_in_part space part parent) (goes_through space part way.0)
      (ap (is_in_part space part) same ∙ among)
  leads_in (suc steps) page top node held (found, parent, at, from, leads) among =
      let way = way_of page node found parent held at from in
      let link = subst (IsLinked U node.rights) way.1 (is.ways.linked page node held) in
      ap (goes_through space part) way.1
      ∙ or_right (is_in_part space part parent) (goes_through space part way.0)
      (ap (goes_through space part) (sym link.2) ∙ leads_in steps parent top link.0 link.1 leads among)

  -- and the way is gone along by parents
  leads_out : (page : Page) (node : PathNode) (above : List Page) → U.node_at page ≡ Some node → node.above ≡ above
      → goes_through space part above ≡ true → IsBelow T space part page
  leads_out page node [] held e h = absurd (false≢true h)
  leads_out page node (first ∷ above) held e h =
      elim (or_cases (is_in_part space part first) (goes_through space part above) h) [
        | inl here ↦ (zero, first, (short node, first, is.nodes page ∙ ap short_of held, ap nearest e, refl), here)
        | inr later ↦
            let link = subst (IsLinked U node.rights) e (is.ways.linked page node held) in
            let up = leads_out first link.0 above link.1 link.2 later in
            (suc up.0, up.1, (short node, first, is.nodes page ∙ ap short_of held, ap nearest e, up.2), up.3)
      ]

  reached_in : (flush : Bool) (page : Page) (node : PathNode) → U.node_at page ≡ Some node → IsReached T space part flush page
      → is_path_reached space part flush page node ≡ true
  reached_in flush page node held (inl (steps, top, leads, among)) =
      or_left (goes_through space part node.above) (flush && is_in_part space part page) (leads_in steps page top node held leads among)
  reached_in flush page node held (inr (flushed, among)) =
      or_right (goes_through space part node.above) (flush && is_in_part space part page) (and_from flush (is_in_part space part page) flushed among)

  reached_out : (flush : Bool) (page : Page) (node : PathNode) → U.node_at page ≡ Some node → is_path_reached space part flush page node ≡ true
      → IsReached T space part flush page
  reached_out flush page node held h =
      elim (or_cases (goes_through space part node.above) (flush && is_in_part space part page) h) [
        | inl below ↦ inl (leads_out page node node.above held refl below)
        | inr own ↦ inr (and_parts flush (is_in_part space part page) own)
      ]

  -- a page with no node came from nowhere
  reached_none : (flush : Bool) (page : Page) → U.node_at page ≡ None → IsReached T space part flush page → (flush && is_in_part space part page) ≡ true
  reached_none flush page held (inl (steps, top, (found, parent, at, from, leads), among)) =
      absurd (no_short found (ap short_of (sym held) ∙ sym (is.nodes page) ∙ at))
  reached_none flush page held (inr (flushed, among)) = and_from flush (is_in_part space part page) flushed among

  with_short : (node : PathNode) (rights : Rights) → node_with (short node) rights ≡ short_of (path_with node rights)
  with_short node rights = by_test (is_empty rights)
    where
      by_test : (b : Bool) → (if b then None else Some (record { frame = node.frame; rights = rights; parent = nearest node.above })) ≡ short_of
          (if b then None else Some (record { frame = node.frame; rights = rights; above = node.above }))
      by_test true = refl
      by_test false = refl

  -- what is reached loses the rights, and all else stays
  less_short : (rights : Rights) (flush : Bool) (page : Page) → IsReached T space part flush page
      → short_of (path_unmapped space part rights flush page (U.node_at page)) ≡ lessened (T.node_at page) rights
  less_short rights flush page reached = by_node (U.node_at page) refl ∙ ap (λ (o : Option Node). lessened o rights) (sym (is.nodes page))
    where
      by_node : (o : Option PathNode) → U.node_at page ≡ o → short_of (path_unmapped space part rights flush page o) ≡ lessened (short_of o) rights
      by_node None held = refl
      by_node (Some node) held =
          ap short_of
          (cond-true (is_path_reached space part flush page node) (path_with node (without node.rights rights)) (Some node)
          (reached_in flush page node held reached))
          ∙ sym (with_short node (without node.rights rights))

  still_short : (rights : Rights) (flush : Bool) (page : Page) → (IsReached T space part flush page → ⊥)
      → short_of (path_unmapped space part rights flush page (U.node_at page)) ≡ T.node_at page
  still_short rights flush page missed = by_node (U.node_at page) refl ∙ sym (is.nodes page)
    where
      by_node : (o : Option PathNode) → U.node_at page ≡ o → short_of (path_unmapped space part rights flush page o) ≡ short_of o
      by_node None held = refl
      by_node (Some node) held = elim (cases_Bool (is_path_reached space part flush page node)) [
        | inl hit ↦ absurd (missed (reached_out flush page node held hit))
        | inr out ↦ ap short_of (cond-false (is_path_reached space part flush page node) (path_with node (without node.rights rights))
            (Some node) out)
      ]

  -- a page is reached or not
  decided : (flush : Bool) (page : Page) → IsReached T space part flush page ⊎ (IsReached T space part flush page → ⊥)
  decided flush page = by_node (U.node_at page) refl
    where
      by_node : (o : Option PathNode) → U.node_at page ≡ o → IsReached T space part flush page ⊎ (IsReached T space part flush page → ⊥)
      by_node None held = elim (cases_Bool (flush && is_in_part space part page)) [
        | inl own ↦ inl (inr (and_parts flush (is_in_part space part page) own))
        | inr out ↦ inr (λ reached. false≢true (sym out ∙ reached_none flush page held reached))
      ]
      by_node (Some node) held = elim (cases_Bool (is_path_reached space part flush page node)) [
        | inl hit ↦ inl (reached_out flush page node held hit)
        | inr out ↦ inr (λ reached. false≢true (sym out ∙ reached_in flush page node held reached))
      ]

  -- each node after rights were taken from all that is reached
  pub unmap_short : (T' : Tree) (rights : Rights) (flush : Bool)
      → ((page : Page) → IsReached T space part flush page → T'.node_at page ≡ lessened (T.node_at page) rights)
      → ((page : Page) → (IsReached T space part flush page → ⊥) → T'.node_at page ≡ T.node_at page)
      → (page : Page) → T'.node_at page ≡ short_of (path_unmapped space part rights flush page (U.node_at page))
  unmap_short T' rights flush less still page = elim (decided flush page) [
    | inl reached ↦ less page reached ∙ sym (less_short rights flush page reached)
    | inr missed ↦ still page missed ∙ sym (still_short rights flush page missed)
  ]

  -- the nodes that are left
  abbrev nodes_left : Rights → Bool → Page → Option Node
  nodes_left rights flush page = short_of (path_unmapped space part rights flush page (U.node_at page))

  -- there is a tree that an Unmap leaves
  pub unmap_leaves : (rights : Rights) (flush : Bool) → (next : Tree) × IsUnmapped T space part rights flush next
  unmap_leaves rights flush = (
    record { node_at = nodes_left rights flush; is_over = T.is_over },
    record { reached = less_short rights flush; others = still_short rights flush; ends = λ other. refl },
  )

-- there is a tree that an End leaves
pub end_leaves : (T : Tree) (U : PathTree) → IsShort T U → (space : Space) → (next : Tree) × IsEnded T space next
end_leaves T U is space = (
  record { node_at = nodes_left T U is space whole all_rights true; is_over = λ other. T.is_over other || same_space space other },
  record { reached = less_short T U is space whole all_rights true; others = still_short T U is space whole all_rights true; ends = λ other. refl },
)

pub short_unmap : (T T' : Tree) (U : PathTree) (space : Space) (part : Place) (rights : Rights) (flush : Bool) → IsShort T U
    → IsUnmapped T space part rights flush T'
    → IsShort T' (path_after_unmap U space part rights flush)
short_unmap T T' U space part rights flush is done = record {
  nodes = unmap_short T U is space part T' rights flush done.reached done.others;
  over = λ other. done.ends other ∙ is.over other;
  ways = linked_unmap U space part rights flush is.ways;
}

pub short_end : (T T' : Tree) (U : PathTree) (space : Space) → IsShort T U → IsEnded T space T' → IsShort T' (path_after_end U space whole)
short_end T T' U space is done =
    let ways = linked_unmap U space whole all_rights true is.ways in
    record {
      nodes = unmap_short T U is space whole T' all_rights true done.reached done.others;
      over = λ other. done.ends other ∙ ap (λ (b : Bool). b || same_space space other) (is.over other);
      ways = record { some = ways.some; linked = ways.linked };
    }
