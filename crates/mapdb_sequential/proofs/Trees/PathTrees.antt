-- A tree of pages whose nodes have all pages that they came through. What parents say step by step, it has in one list.
use Rattle.std.specs.Prelude.{ℕ, Bool, true, false, ◌&&◌, ◌||◌, List, [], ◌∷◌, Option, Some, None, if◌then◌else◌}
use Rattle.std.specs.Option.{option_or}
use Rattle.mapdb_fpage.specs.Place.{Place, holds, is_page}
use Rattle.mapdb_fpage.specs.RightSets.{all_rights, common, is_empty, without}
use Rattle.mapdb_fpage.specs.declared.right_sets.Rights.{Rights}
use Rattle.mapdb_facts.specs.Names.{is_first_space, same_space}
use Rattle.mapdb_facts.specs.declared.names.Space.{Space}
use Rattle.mapdb_replica.proofs.Unmaps.SharedPlaces.{number_behind}
use Rattle.mapdb_tree.specs.Tree.{is_in_part}
use Rattle.mapdb_tree.specs.declared.nodes.Page.{Page}

-- What a page of a space holds: a frame, rights, and the pages that it came through, the nearest first, up to the first space.
pub record PathNode : Type 0 where
  pub frame : ℕ
  pub rights : Rights
  pub above : List Page

pub record PathTree : Type 0 where
  pub node_at : Page → Option PathNode
  pub is_over : Space → Bool

-- at the start the first space has all its pages
abbrev pub first_path : Page → Option PathNode
first_path spot =
    if is_first_space spot.space && is_page spot.number
    then Some (record { frame = spot.number; rights = all_rights; above = [] })
    else None

abbrev pub first_path_tree : PathTree
first_path_tree = record { node_at = first_path; is_over = λ _. false }

-- a node with these rights, or none if these are none
abbrev pub path_with : PathNode → Rights → Option PathNode
path_with node rights = if is_empty rights then None else Some (record node { rights = rights })

-- what a page gets from a node of the sender: the shared rights, under that node
abbrev pub path_handed : Option PathNode → Page → Rights → Option PathNode
path_handed None from rights = None
path_handed (Some node) from rights =
    if is_empty (common node.rights rights)
    then None
    else Some (record { frame = node.frame; rights = common node.rights rights; above = from ∷ node.above })

-- what a Map brings to a page of the receiver
abbrev pub path_brought : PathTree → Space → Place → Place → Rights → ℕ → Option PathNode
path_brought T sender source target rights page =
    if holds target page
    then (let from : Page = record { space = sender; number = number_behind source target page } in path_handed (T.node_at from) from rights)
    else None

-- a page that is brought a node has one already
abbrev pub is_path_taken : Option PathNode → Option PathNode → Bool
is_path_taken (Some new) (Some old) = true
is_path_taken (Some new) None = false
is_path_taken None old = false

abbrev pub path_after_map : PathTree → Space → Place → Space → Place → Rights → PathTree
path_after_map T sender source receiver target rights = record {
  node_at = λ spot.
      if same_space receiver spot.space
      then option_or (path_brought T sender source target rights spot.number) (T.node_at spot)
      else T.node_at spot;
  is_over = T.is_over;
}

-- one of the pages is among these
abbrev pub goes_through : Space → Place → List Page → Bool
goes_through space part [] = false
goes_through space part (spot ∷ spots) = is_in_part space part spot || goes_through space part spots

-- Unmap reaches each node below, and with a flush the node itself
abbrev pub is_path_reached : Space → Place → Bool → Page → PathNode → Bool
is_path_reached space part flush spot node = goes_through space part node.above || (flush && is_in_part space part spot)

abbrev pub path_unmapped : Space → Place → Rights → Bool → Page → Option PathNode → Option PathNode
path_unmapped space part rights flush spot None = None
path_unmapped space part rights flush spot (Some node) =
    if is_path_reached space part flush spot node then path_with node (without node.rights rights) else Some node

abbrev pub path_after_unmap : PathTree → Space → Place → Rights → Bool → PathTree
path_after_unmap T space part rights flush = record {
  node_at = λ spot. path_unmapped space part rights flush spot (T.node_at spot);
  is_over = T.is_over;
}

-- End: all of the space is flushed, and the space is over
abbrev pub path_after_end : PathTree → Space → Place → PathTree
path_after_end T space complete = record {
  node_at = λ spot. path_unmapped space complete all_rights true spot (T.node_at spot);
  is_over = λ other. T.is_over other || same_space space other;
}
