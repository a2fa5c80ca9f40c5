-- The tree as a function: no way up is longer than there were commands, so its bound on steps leaves nothing out.
use Rattle.std.proofs.Common.{◌≡◌, ℕ, zero, suc, ◌≤◌, Bool, true, false, Some, refl, sym, ap, subst, ◌∙◌, List, [], ◌∷◌, length, arith}
use Rattle.std.specs.Prelude.{◌&&◌, ◌||◌, Option, None, if◌then◌else◌}
use Rattle.mapdb_fpage.specs.Place.{Place, whole}
use Rattle.mapdb_fpage.specs.RightSets.{all_rights, is_empty, without}
use Rattle.mapdb_fpage.specs.declared.right_sets.Rights.{Rights}
use Rattle.mapdb_facts.specs.declared.names.Space.{Space}
use Rattle.mapdb_tree.specs.Steps.{AreSame}
use Rattle.mapdb_tree.specs.Tree.{IsEnded, IsUnmapped, Tree, is_in_part, lessened}
use Rattle.mapdb_tree.specs.Walks.{ended, is_below, is_reached, left_of, parent_in, parent_passes, unmapped}
use Rattle.mapdb_tree.specs.declared.nodes.Node.{Node}
use Rattle.mapdb_tree.specs.declared.nodes.Page.{Page}
use Rattle.mapdb_sequential.proofs.Unmaps.LinkedUnmap.{end_leaves, short_end, short_unmap, unmap_leaves}
use Rattle.mapdb_sequential.proofs.Trees.Linking.{IsLinked, IsShort, nearest, short, short_of}
use Rattle.mapdb_sequential.proofs.Trees.PathTrees.{PathNode, PathTree, goes_through, is_path_reached, path_unmapped, path_with}

-- no way up is longer
abbrev pub IsLow : ℕ → PathTree → Type 0
IsLow steps U = (page : Page) (node : PathNode) → U.node_at page ≡ Some node → length node.above ≤ steps

-- trees that are the same are one
pub same_tree : (T T' : Tree) → AreSame T T' → T' ≡ T
same_tree T T' same = λ i. record { node_at = λ page. same.nodes page i; is_over = λ space. same.ends space i }

module _ (T : Tree) (U : PathTree) (is : IsShort T U) (space : Space) (part : Place) where
  -- a way up of at most so many steps is looked at whole
  below_is : (steps : ℕ) (page : Page) (node : PathNode) (above : List Page) → U.node_at page ≡ Some node → node.above ≡ above
      → length above ≤ steps → is_below steps T space part page ≡ goes_through space part above
  below_is zero page node [] held way few = refl
  below_is zero page node (first ∷ above) held way few = absurd (omega arith)
  below_is (suc steps) page node [] held way few =
      ap (λ (o : Option Node). parent_passes (λ parent. is_in_part space part parent || is_below steps T space part parent) (parent_in o))
      (is.nodes page ∙ ap short_of held)
      ∙ ap (λ (x : List Page). parent_passes (λ parent. is_in_part space part parent || is_below steps T space part parent) (nearest x)) way
  below_is (suc steps) page node (first ∷ above) held way few =
      let link = subst (IsLinked U node.rights) way (is.ways.linked page node held) in
      let fewer : length above ≤ steps = omega arith in
      ap (λ (o : Option Node). parent_passes (λ parent. is_in_part space part parent || is_below steps T space part parent) (parent_in o))
      (is.nodes page ∙ ap short_of held)
      ∙ ap (λ (x : List Page). parent_passes (λ parent. is_in_part space part parent || is_below steps T space part parent) (nearest x)) way
      ∙ ap (λ (b : Bool). is_in_part space part first || b) (below_is steps first link.0 above link.1 link.2 fewer)

  -- what an Unmap leaves of a node
  left_short : (node : PathNode) (rights : Rights) (b : Bool)
      → short_of (if b then path_with node (without node.rights rights) else Some node)
      ≡ (if b then lessened (Some (short node)) rights else Some (short node))
  left_short node rights true = by_test (is_empty (without node.rights rights))
    where
      by_test : (b : Bool)
          → short_of (if b then None else Some (record { frame = node.frame; rights = without node.rights rights; above = node.above }))
          ≡ (if b then None else Some (record { frame = node.frame; rights = without node.rights rights; parent = nearest node.above }))
      by_test true = refl
      by_test false = refl
  left_short node rights false = refl

  left_none : (b : Bool) (rights : Rights) → None ≡ (if b then lessened None rights else None)
  left_none true rights = refl
  left_none false rights = refl

  pub left_is : (steps : ℕ) → IsLow steps U → (rights : Rights) (flush : Bool) (page : Page)
      → short_of (path_unmapped space part rights flush page (U.node_at page)) ≡ left_of steps T space part rights flush page
  left_is steps low rights flush page = by_node (U.node_at page) refl
    where
      by_node : (o : Option PathNode) → U.node_at page ≡ o
          → short_of (path_unmapped space part rights flush page o) ≡ left_of steps T space part rights flush page
      by_node None held =
          left_none (is_reached steps T space part flush page) rights
          ∙ ap (λ (o : Option Node). if is_reached steps T space part flush page then lessened o rights else o)
          (sym (is.nodes page ∙ ap short_of held))
      by_node (Some node) held =
          left_short node rights (is_path_reached space part flush page node)
          ∙ ap (λ (b : Bool). if b || (flush && is_in_part space part page) then lessened (Some (short node)) rights else Some (short node))
          (sym (below_is steps page node node.above held refl (low page node held)))
          ∙ ap (λ (o : Option Node). if is_reached steps T space part flush page then lessened o rights else o)
          (sym (is.nodes page ∙ ap short_of held))

-- what the manual says of an Unmap is what the function gives
pub unmapped_only : (T T' : Tree) (U : PathTree) (steps : ℕ) (space : Space) (part : Place) (rights : Rights) (flush : Bool)
    → IsShort T U → IsLow steps U
    → IsUnmapped T space part rights flush T' → T' ≡ unmapped steps T space part rights flush
unmapped_only T T' U steps space part rights flush is low done =
    same_tree (unmapped steps T space part rights flush) T' (record {
      nodes = λ page. (short_unmap T T' U space part rights flush is done).nodes page
          ∙ left_is T U is space part steps low rights flush page;
      ends = done.ends;
    })

pub unmapped_is : (T : Tree) (U : PathTree) (steps : ℕ) (space : Space) (part : Place) (rights : Rights) (flush : Bool) → IsShort T U
    → IsLow steps U
    → IsUnmapped T space part rights flush (unmapped steps T space part rights flush)
unmapped_is T U steps space part rights flush is low =
    let there = unmap_leaves T U is space part rights flush in
    subst (IsUnmapped T space part rights flush) (unmapped_only T there.0 U steps space part rights flush is low there.1) there.1

pub ended_only : (T T' : Tree) (U : PathTree) (steps : ℕ) (space : Space) → IsShort T U → IsLow steps U → IsEnded T space T'
    → T' ≡ ended steps T space
ended_only T T' U steps space is low done =
    same_tree (ended steps T space) T' (record {
      nodes = λ page. (short_end T T' U space is done).nodes page ∙ left_is T U is space whole steps low all_rights true page;
      ends = done.ends;
    })

pub ended_is : (T : Tree) (U : PathTree) (steps : ℕ) (space : Space) → IsShort T U → IsLow steps U → IsEnded T space (ended steps T space)
ended_is T U steps space is low =
    let there = end_leaves T U is space in
    subst (IsEnded T space) (ended_only T there.0 U steps space is low there.1) there.1
