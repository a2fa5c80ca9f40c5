-- How a tree of whole ways up shows a state of records.
use Rattle.std.specs.Prelude.{◌≡◌, ℕ, true, false, List, [], ◌∷◌, Option, Some, None}
use Rattle.mapdb_fpage.specs.Place.{is_page}
use Rattle.mapdb_fpage.specs.RightSets.{is_empty}
use Rattle.mapdb_facts.specs.Names.{is_root}
use Rattle.mapdb_facts.specs.State.{State}
use Rattle.mapdb_facts.specs.declared.names.RecordId.{RecordId}
use Rattle.mapdb_facts.specs.declared.names.Space.{Space}
use Rattle.mapdb_facts.specs.declared.operations.Record.{Record}
use Rattle.mapdb_rights.specs.PageRights.{is_into, lies_in}
use Rattle.mapdb_rights.specs.Right.{reaches, rights_at, source_page}
use Rattle.mapdb_sequential.proofs.Trees.PathTrees.{PathNode, PathTree}
use Rattle.mapdb_tree.specs.declared.nodes.Page.{Page}

-- the record's page comes from this frame through these pages, the nearest first
abbrev pub ComesThrough : State → RecordId → ℕ → ℕ → List Page → Type 0
ComesThrough S id page frame [] = (is_root id ≡ true) × (is_page page ≡ true) × (frame ≡ page)
ComesThrough S id page frame (spot ∷ spots) =
    (is_root id ≡ false) × (r : Record) × (S.record_at id ≡ Some r) × (reaches id r page ≡ true)
    × (spot.number ≡ source_page r page) × (is_into S spot.space r.parent ≡ true) × (lies_in S r.parent (source_page r page) ≡ true)
    × ComesThrough S r.parent (source_page r page) frame spots

-- no record of the space has a right at the page
abbrev pub IsBare : State → Page → Type 0
IsBare S spot = (id : RecordId) → is_into S spot.space id ≡ true → is_empty (rights_at S id spot.number) ≡ true

-- one record of the space has rights at the page, and no other: the node's rights, from its frame, through its pages
pub record IsHeldBy (S : State) (spot : Page) (node : PathNode) (id : RecordId) : Type 0 where
  pub into : is_into S spot.space id ≡ true
  pub through : ComesThrough S id spot.number node.frame node.above
  pub rights : rights_at S id spot.number ≡ node.rights
  pub some : is_empty node.rights ≡ false
  pub alone : (other : RecordId) → is_into S spot.space other ≡ true → is_empty (rights_at S other spot.number) ≡ false → other ≡ id

abbrev pub ShowsAt : State → Page → Option PathNode → Type 0
ShowsAt S spot None = IsBare S spot
ShowsAt S spot (Some node) = (id : RecordId) × IsHeldBy S spot node id

-- the tree shows the state
pub record Shows (T : PathTree) (S : State) : Type 0 where
  pub nodes : (spot : Page) → ShowsAt S spot (T.node_at spot)
  pub ends : (space : Space) → T.is_over space ≡ S.is_ended space
