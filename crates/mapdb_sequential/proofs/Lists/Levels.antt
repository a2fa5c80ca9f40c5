-- A command adds one level of pages at most.
use Rattle.std.proofs.Common.{◌≡◌, ℕ, zero, suc, ◌≤◌, Bool, true, false, Some, refl, subst, [], ◌∷◌, length, arith}
use Rattle.std.specs.Prelude.{◌&&◌, Option, None, if◌then◌else◌}
use Rattle.std.specs.Option.{option_or}
use Rattle.mapdb_fpage.specs.Place.{Place, holds, is_page}
use Rattle.mapdb_fpage.specs.RightSets.{all_rights, common, is_empty, without}
use Rattle.mapdb_fpage.specs.declared.right_sets.Rights.{Rights}
use Rattle.mapdb_facts.specs.Names.{is_first_space, same_space}
use Rattle.mapdb_facts.specs.declared.names.Space.{Space}
use Rattle.mapdb_tree.specs.declared.nodes.Page.{Page}
use Rattle.mapdb_sequential.proofs.Trees.Linking.{no_path, same_path}
use Rattle.mapdb_replica.proofs.Unmaps.SharedPlaces.{number_behind}
use Rattle.mapdb_sequential.proofs.Trees.PathTrees.{PathNode, PathTree, first_path_tree, is_path_reached, path_after_map, path_handed, path_unmapped, path_with}
use Rattle.mapdb_sequential.proofs.Trees.Walking.{IsLow}

-- what stands there, if anything, is low
abbrev Fits : ℕ → Option PathNode → Type 0
Fits steps o = (node : PathNode) → o ≡ Some node → length node.above ≤ steps

fits_none : (steps : ℕ) → Fits steps None
fits_none steps node e = absurd (no_path node e)

fits_some : (steps : ℕ) (node : PathNode) → length node.above ≤ steps → Fits steps (Some node)
fits_some steps node few other e = subst (λ (x : PathNode). length x.above ≤ steps) (same_path node other e) few

one_more : (steps count : ℕ) → count ≤ steps → count ≤ suc steps
one_more steps count few = omega arith

fits_more : (steps : ℕ) (o : Option PathNode) → Fits steps o → Fits (suc steps) o
fits_more steps o fits node e = one_more steps (length node.above) (fits node e)

-- the start
fits_first : (page : Page) (b : Bool)
    → Fits zero (if b then Some (record { frame = page.number; rights = all_rights; above = [] }) else None)
fits_first page true = fits_some zero (record { frame = page.number; rights = all_rights; above = [] }) (omega arith)
fits_first page false = fits_none zero

pub low_start : IsLow zero first_path_tree
low_start page = fits_first page (is_first_space page.space && is_page page.number)

-- a Map
fits_handed : (steps : ℕ) (o : Option PathNode) (from : Page) (rights : Rights) → Fits steps o
    → Fits (suc steps) (path_handed o from rights)
fits_handed steps None from rights fits = fits_none (suc steps)
fits_handed steps (Some node) from rights fits = by_test (is_empty (common node.rights rights))
  where
    few : length node.above ≤ steps
    few = fits node refl

    new : PathNode
    new = record { frame = node.frame; rights = common node.rights rights; above = from ∷ node.above }

    by_test : (b : Bool) → Fits (suc steps) (if b then None else Some new)
    by_test true = fits_none (suc steps)
    by_test false = fits_some (suc steps) new (omega (arith, few))

fits_either : (steps : ℕ) (new old : Option PathNode) → Fits steps new → Fits steps old → Fits steps (option_or new old)
fits_either steps None old new_fits old_fits = old_fits
fits_either steps (Some new) old new_fits old_fits = new_fits

pub low_map : (U : PathTree) (steps : ℕ) (sender : Space) (source : Place) (receiver : Space) (target : Place) (rights : Rights)
    → IsLow steps U → IsLow (suc steps) (path_after_map U sender source receiver target rights)
low_map U steps sender source receiver target rights low page = by_space (same_space receiver page.space)
  where
    old : Fits (suc steps) (U.node_at page)
    old = fits_more steps (U.node_at page) (low page)

    from : Page
    from = record { space = sender; number = number_behind source target page.number }

    by_place : (b : Bool) → Fits (suc steps) (if b then path_handed (U.node_at from) from rights else None)
    by_place true = fits_handed steps (U.node_at from) from rights (low from)
    by_place false = fits_none (suc steps)

    by_space : (b : Bool) → Fits (suc steps)
        (if b then option_or (if holds target page.number then path_handed (U.node_at from) from rights else None) (U.node_at page)
        else U.node_at page)
    by_space true =
        fits_either (suc steps) (if holds target page.number then path_handed (U.node_at from) from rights else None) (U.node_at page)
        (by_place (holds target page.number)) old
    by_space false = old

-- an Unmap
fits_unmapped : (steps : ℕ) (space : Space) (part : Place) (rights : Rights) (flush : Bool) (page : Page) (o : Option PathNode)
    → Fits steps o → Fits (suc steps) (path_unmapped space part rights flush page o)
fits_unmapped steps space part rights flush page None fits = fits_none (suc steps)
fits_unmapped steps space part rights flush page (Some node) fits = by_test (is_path_reached space part flush page node)
  where
    few : length node.above ≤ suc steps
    few = one_more steps (length node.above) (fits node refl)

    by_rights : (b : Bool)
        → Fits (suc steps) (if b then None else Some (record {
          frame = node.frame;
          rights = without node.rights rights;
          above =
              node.above;
        }))
    by_rights true = fits_none (suc steps)
    by_rights false = fits_some (suc steps) (record { frame = node.frame; rights = without node.rights rights; above = node.above }) few

    by_test : (b : Bool) → Fits (suc steps) (if b then path_with node (without node.rights rights) else Some node)
    by_test true = by_rights (is_empty (without node.rights rights))
    by_test false = fits_some (suc steps) node few

pub low_unmap : (U : PathTree) (steps : ℕ) (space : Space) (part : Place) (rights : Rights) (flush : Bool) → IsLow steps U
    → (page : Page) → Fits (suc steps) (path_unmapped space part rights flush page (U.node_at page))
low_unmap U steps space part rights flush low page = fits_unmapped steps space part rights flush page (U.node_at page) (low page)

-- what changes nothing
pub low_same : (U : PathTree) (steps : ℕ) → IsLow steps U → IsLow (suc steps) U
low_same U steps low page = fits_more steps (U.node_at page) (low page)
