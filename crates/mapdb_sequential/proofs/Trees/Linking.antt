-- A tree whose nodes know their parents, beside the tree of whole ways up.
use Rattle.std.proofs.Common.{◌≡◌, ℕ, Bool, true, false, Some, refl, sym, ap, subst, ◌∙◌, List, [], ◌∷◌, inl, inr}
use Rattle.std.specs.Prelude.{◌⊎◌, ◌&&◌, Option, None, if◌then◌else◌}
use Rattle.std.proofs.lemmas.Bool.{false≢true}
use Rattle.std.specs.Option.{option_or}
use Rattle.mapdb_fpage.specs.Place.{Place, holds, is_page}
use Rattle.mapdb_fpage.specs.RightSets.{all_rights, common, includes, is_empty}
use Rattle.mapdb_fpage.specs.declared.items.Transfer.{Transfer}
use Rattle.mapdb_fpage.specs.declared.right_sets.Right.{Right}
use Rattle.mapdb_fpage.specs.declared.right_sets.Rights.{Rights}
use Rattle.mapdb_facts.specs.Names.{is_first_space, same_space}
use Rattle.mapdb_facts.specs.declared.names.Space.{Space}
use Rattle.mapdb_replica.proofs.Unmaps.SharedPlaces.{number_behind}
use Rattle.mapdb_sequential.proofs.Trees.PathTrees.{PathNode, PathTree, first_path_tree, is_path_taken, path_after_map, path_brought, path_handed}
use Rattle.mapdb_fpage.proofs.RightLemmas.{common_left}
use Rattle.mapdb_tree.specs.Steps.{AreSame}
use Rattle.mapdb_tree.specs.Tree.{Tree, are_both, brought, first_tree, handed, mapped, page_behind}
use Rattle.mapdb_tree.specs.declared.nodes.Node.{Node}
use Rattle.mapdb_tree.specs.declared.nodes.Page.{Page}

-- a node with its parent alone
abbrev pub nearest : List Page → Option Page
nearest [] = None
nearest (from ∷ above) = Some from

abbrev pub short : PathNode → Node
short node = record { frame = node.frame; rights = node.rights; parent = nearest node.above }

abbrev pub short_of : Option PathNode → Option Node
short_of None = None
short_of (Some node) = Some (short node)

-- A node's way up is that of the page it came from, one step on, and there are all of its rights.
abbrev pub IsLinked : PathTree → Rights → List Page → Type 0
IsLinked U rights [] = Unit {0}
IsLinked U rights (from ∷ above) =
    (up : PathNode) × (U.node_at from ≡ Some up) × (up.above ≡ above)
    × ((right : Right) → includes rights right ≡ true → includes up.rights right ≡ true)

pub record AreLinked (U : PathTree) : Type 0 where
  pub some : (page : Page) (node : PathNode) → U.node_at page ≡ Some node → is_empty node.rights ≡ false
  pub linked : (page : Page) (node : PathNode) → U.node_at page ≡ Some node → IsLinked U node.rights node.above

-- the tree has each node of the ways, with its parent alone
pub record IsShort (T : Tree) (U : PathTree) : Type 0 where
  pub nodes : (page : Page) → T.node_at page ≡ short_of (U.node_at page)
  pub over : (space : Space) → T.is_over space ≡ U.is_over space
  pub ways : AreLinked U

pub same_path : (a b : PathNode) → Some a ≡ Some b → a ≡ b
same_path a b e = cc

pub no_path : (a : PathNode) → None ≡ Some a → ⊥
no_path a e = cc

-- the start
first_short : (page : Page) (b : Bool) → (if b then Some (record { frame = page.number; rights = all_rights; parent = None }) else None) ≡ short_of
    (if b then Some (record { frame = page.number; rights = all_rights; above = [] }) else None)
first_short page true = refl
first_short page false = refl

first_is : (page : Page) (node : PathNode) (b : Bool) → (if b then Some (record { frame = page.number; rights = all_rights; above = [] }) else None)
    ≡ Some node → record { frame = page.number; rights = all_rights; above = [] } ≡ node
first_is page node true e = same_path (record { frame = page.number; rights = all_rights; above = [] }) node e
first_is page node false e = absurd (no_path node e)

pub short_start : IsShort first_tree first_path_tree
short_start = record {
  nodes = λ page. first_short page (is_first_space page.space && is_page page.number);
  over = λ space. refl;
  ways = record {
    some = λ page node e. subst (λ (x : PathNode). is_empty x.rights ≡ false)
        (first_is page node (is_first_space page.space && is_page page.number) e) refl;
    linked = λ page node e. subst (λ (x : PathNode). IsLinked first_path_tree x.rights x.above)
        (first_is page node (is_first_space page.space && is_page page.number) e) tt;
  };
}

-- a Map
handed_short : (o : Option PathNode) (from : Page) (rights : Rights) → handed (short_of o) from rights ≡ short_of (path_handed o from rights)
handed_short None from rights = refl
handed_short (Some node) from rights = by_test (is_empty (common node.rights rights))
  where
    by_test : (b : Bool) → (if b then None else Some (record { frame = node.frame; rights = common node.rights rights; parent = Some from }))
        ≡ short_of (if b then None else Some (record { frame = node.frame; rights = common node.rights rights; above = from ∷ node.above }))
    by_test true = refl
    by_test false = refl

pub brought_short : (T : Tree) (U : PathTree) → IsShort T U → (sender : Space) (t : Transfer) (number : ℕ)
    → brought T sender t number ≡ short_of (path_brought U sender t.source t.target t.rights number)
brought_short T U is sender t number = by_test (page_behind sender t number) (holds t.target number)
  where
    by_test : (from : Page) (b : Bool) → (if b then handed (T.node_at from) from t.rights else None) ≡ short_of
        (if b then path_handed (U.node_at from) from t.rights else None)
    by_test from true = ap (λ (o : Option Node). handed o from t.rights) (is.nodes from) ∙ handed_short (U.node_at from) from t.rights
    by_test from false = refl

pub both_short : (a b : Option PathNode) → are_both (short_of a) (short_of b) ≡ is_path_taken a b
both_short None b = refl
both_short (Some node) None = refl
both_short (Some node) (Some old) = refl

either_short : (a b : Option PathNode) → option_or (short_of a) (short_of b) ≡ short_of (option_or a b)
either_short None b = refl
either_short (Some node) b = refl

map_short : (T : Tree) (U : PathTree) → IsShort T U → (sender receiver : Space) (t : Transfer) (page : Page)
    → (mapped T sender t receiver).node_at page ≡ short_of ((path_after_map U sender t.source receiver t.target t.rights).node_at page)
map_short T U is sender receiver t page = by_test (same_space receiver page.space)
  where
    by_test : (b : Bool) → (if b then option_or (brought T sender t page.number) (T.node_at page) else T.node_at page)
        ≡ short_of (if b then option_or (path_brought U sender t.source t.target t.rights page.number) (U.node_at page) else U.node_at page)
    by_test true =
        ap (λ (o : Option Node). option_or o (T.node_at page)) (brought_short T U is sender t page.number)
        ∙ ap (option_or (short_of (path_brought U sender t.source t.target t.rights page.number))) (is.nodes page)
        ∙ either_short (path_brought U sender t.source t.target t.rights page.number) (U.node_at page)
    by_test false = is.nodes page

-- where a node of the tree after a Map is from
record IsHanded (T : PathTree) (rights : Rights) (node : PathNode) (from : Page) (up : PathNode) : Type 0 where
  held : T.node_at from ≡ Some up
  is : record { frame = up.frame; rights = common up.rights rights; above = from ∷ up.above } ≡ node
  some : is_empty (common up.rights rights) ≡ false

handed_is : (T : PathTree) (rights : Rights) (node : PathNode) (from : Page) (o : Option PathNode) → T.node_at from ≡ o
    → path_handed o from rights ≡ Some node → (up : PathNode) × IsHanded T rights node from up
handed_is T rights node from None held e = absurd (no_path node e)
handed_is T rights node from (Some up) held e = by_test (is_empty (common up.rights rights)) refl e
  where
    by_test : (b : Bool) → is_empty (common up.rights rights) ≡ b
        → (if b then None else Some (record { frame = up.frame; rights = common up.rights rights; above = from ∷ up.above })) ≡ Some node
        → (up : PathNode) × IsHanded T rights node from up
    by_test true some h = absurd (no_path node h)
    by_test false some h = (
      up,
      record {
        held = held;
        is = same_path
            (record { frame = up.frame; rights = common up.rights rights; above = from ∷ up.above }) node h;
        some = some;
      },
    )

map_new : (T : PathTree) (sender : Space) (source : Place) (receiver : Space) (target : Place) (rights : Rights) (spot : Page) (node : PathNode)
    → (path_after_map T sender source receiver target rights).node_at spot ≡ Some node
    → (T.node_at spot ≡ Some node) ⊎ ((from : Page) × (up : PathNode) × IsHanded T rights node from up)
map_new T sender source receiver target rights spot node e = by_space (same_space receiver spot.space) e
  where
    by_place : (from : Page) (b : Bool) (old : Option PathNode)
        → option_or (if b then path_handed (T.node_at from) from rights else None) old ≡ Some node
        → (old ≡ Some node) ⊎ ((from : Page) × (up : PathNode) × IsHanded T rights node from up)
    by_place from false old h = inl h
    by_place from true old h = by_node (path_handed (T.node_at from) from rights) refl h
      where
        by_node : (o : Option PathNode) → path_handed (T.node_at from) from rights ≡ o → option_or o old ≡ Some node
            → (old ≡ Some node) ⊎ ((from : Page) × (up : PathNode) × IsHanded T rights node from up)
        by_node None was k = inl k
        by_node (Some new) was k = let found = handed_is T rights node from (T.node_at from) refl (was ∙ k) in inr (from, found.0, found.1)

    by_space : (b : Bool) → (if b then option_or (path_brought T sender source target rights spot.number) (T.node_at spot) else T.node_at spot)
        ≡ Some node → (T.node_at spot ≡ Some node) ⊎ ((from : Page) × (up : PathNode) × IsHanded T rights node from up)
    by_space true h = by_place (record { space = sender; number = number_behind source target spot.number }) (holds target spot.number)
        (T.node_at spot) h
    by_space false h = inl h

map_old : (T : PathTree) (sender : Space) (source : Place) (receiver : Space) (target : Place) (rights : Rights)
    → ((spot : Page) → same_space receiver spot.space ≡ true
    → is_path_taken (path_brought T sender source target rights spot.number) (T.node_at spot) ≡ false)
    → (spot : Page) (up : PathNode) → T.node_at spot ≡ Some up → (path_after_map T sender source receiver target rights).node_at spot ≡ Some up
map_old T sender source receiver target rights free spot up e = by_space (same_space receiver spot.space) refl
  where
    by_node : (o : Option PathNode) → is_path_taken o (T.node_at spot) ≡ false → option_or o (T.node_at spot) ≡ Some up
    by_node None open_to = e
    by_node (Some new) open_to = absurd (false≢true (sym open_to ∙ ap (is_path_taken (Some new)) e))

    by_space : (b : Bool) → same_space receiver spot.space ≡ b
        → (if b then option_or (path_brought T sender source target rights spot.number) (T.node_at spot) else T.node_at spot) ≡ Some up
    by_space true into = by_node (path_brought T sender source target rights spot.number) (free spot into)
    by_space false into = e

relinked : (T T' : PathTree) (rights : Rights) (above : List Page)
    → ((spot : Page) (up : PathNode) → T.node_at spot ≡ Some up → T'.node_at spot ≡ Some up) → IsLinked T rights above → IsLinked T' rights above
relinked T T' rights [] more h = tt
relinked T T' rights (spot ∷ spots) more (up, held, same, sub) = (up, more spot up held, same, sub)

linked_map : (T : PathTree) (sender : Space) (source : Place) (receiver : Space) (target : Place) (rights : Rights)
    → ((spot : Page) → same_space receiver spot.space ≡ true
    → is_path_taken (path_brought T sender source target rights spot.number) (T.node_at spot) ≡ false)
    → AreLinked T → AreLinked (path_after_map T sender source receiver target rights)
linked_map T sender source receiver target rights free ways = record {
  some = λ spot node e. elim (map_new T sender source receiver target rights spot node e) [
    | inl old ↦ ways.some spot node old
    | inr new ↦ subst (λ (x : PathNode). is_empty x.rights ≡ false) new.2.is new.2.some
  ];
  linked = λ spot node e. elim (map_new T sender source receiver target rights spot node e) [
    | inl old ↦ relinked T (path_after_map T sender source receiver target rights) node.rights node.above
        (map_old T sender source receiver target rights free) (ways.linked spot node old)
    | inr new ↦ subst (λ (x : PathNode). IsLinked (path_after_map T sender source receiver target rights) x.rights x.above) new.2.is
        (new.1, map_old T sender source receiver target rights free new.0 new.1 new.2.held, refl, common_left new.1.rights rights)
  ];
}

-- where no page is taken
pub short_map : (T T' : Tree) (U : PathTree) (sender receiver : Space) (t : Transfer)
    → ((page : Page) → same_space receiver page.space ≡ true
    → is_path_taken (path_brought U sender t.source t.target t.rights page.number) (U.node_at page) ≡ false)
    → IsShort T U → AreSame (mapped T sender t receiver) T' → IsShort T' (path_after_map U sender t.source receiver t.target t.rights)
short_map T T' U sender receiver t free is same = record {
  nodes = λ page. same.nodes page ∙ map_short T U is sender receiver t page;
  over = λ space. same.ends space ∙ is.over space;
  ways = linked_map U sender t.source receiver t.target t.rights free is.ways;
}

pub short_same : (T T' : Tree) (U : PathTree) → IsShort T U → AreSame T T' → IsShort T' U
short_same T T' U is same = record {
  nodes = λ page. same.nodes page ∙ is.nodes page;
  over = λ space. same.ends space ∙ is.over space;
  ways = is.ways;
}
