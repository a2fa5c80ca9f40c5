-- The Graphviz text of what a copy holds: each space is a box, each record stands in the box of its
-- space, and a line leads to it from the record that its pages come from. A record whose parent is
-- not held is dashed, and so is that parent. The box of a space that has ended is grey. Each name
-- has one node.
use Rattle.std.specs.Prelude.{ℕ, Bool, ◌||◌, List, [], ◌∷◌, ◌++◌, is_some, codes, decimal}
use Rattle.std.specs.Prelude.{flat_map, map, if◌then◌else◌}
use Rattle.std.specs.BTreeSet.{insert_key}
use Rattle.mapdb_facts.specs.Kept.{id_cmp}
use Rattle.mapdb_facts.specs.Names.{first_space, is_root, root}
use Rattle.mapdb_facts.specs.Records.{records_of}
use Rattle.mapdb_facts.specs.State.{State, state_of}
use Rattle.mapdb_facts.specs.declared.names.RecordId.{RecordId}
use Rattle.mapdb_facts.specs.declared.names.Space.{Space}
use Rattle.mapdb_facts.specs.declared.operations.Op.{Op}
use Rattle.mapdb_facts.specs.declared.operations.Record.{Record}
use Rattle.mapdb_snapshot.specs.Cutting.{cut_names}
use Rattle.mapdb_snapshot.specs.Snapshot.{ended_of}
use Rattle.mapdb_picture.specs.Labels.{absent_label, record_label, root_label}
use Rattle.mapdb_lines.specs.Shown.{name_text, space_text}
use Rattle.mapdb_picture.specs.declared.pictures.Style.{Style}
use Rattle.mapdb_picture.specs.declared.pictures.Style.TheVariants.{Dashed, Solid}

-- the name of a style
abbrev pub style_text : Style → List ℕ
style_text Solid = codes "solid"
style_text Dashed = codes "dashed"

-- a record, as a node
abbrev pub node_text : RecordId → List ℕ → Style → List ℕ
node_text id label style =
    codes "\"" ++ (name_text id ++ (codes "\" [label=\"" ++ (label ++ (codes "\", style="
    ++ (style_text style ++ codes "];")))))

-- the line from a record to one whose pages come from it
abbrev pub edge_text : RecordId → RecordId → Style → List ℕ
edge_text parent id style =
    codes "\"" ++ (name_text parent ++ (codes "\" -> \"" ++ (name_text id ++ (codes "\" [style="
    ++ (style_text style ++ codes "];\n")))))

-- what stands in the box of a space
abbrev pub boxed : Space → List ℕ → List ℕ
boxed space inside =
    codes "subgraph cluster_" ++ (decimal space.number ++ (codes "_" ++ (decimal space.version
    ++ (codes " { label=\"space " ++ (space_text space
    ++ (codes "\"; " ++ (inside ++ codes " }\n")))))))

-- the root, or a record that is held, has this name
abbrev pub is_known : State → RecordId → Bool
is_known S id = is_root id || is_some (S.record_at id)

-- solid, or dashed where the parent is not held
abbrev pub style_under : State → RecordId → Style
style_under S parent = if is_known S parent then Solid else Dashed

-- a record that is not held
abbrev pub absent_line : State → RecordId → List ℕ
absent_line S id = node_text id (absent_label S id) Dashed ++ codes "\n"

-- nothing where the root, or a record that is held, has the name
abbrev pub if_absent : State → RecordId → List ℕ
if_absent S id = if is_known S id then [] else absent_line S id

-- a record in the box of its space, and the line that leads to it: dashed where its parent is not
-- held
abbrev pub record_lines : State → Record → List ℕ
record_lines S r = boxed r.space (node_text r.id (record_label S r) (style_under S r.parent))
    ++ edge_text r.parent r.id (style_under S r.parent)

-- names in ascending order, each once
abbrev pub sorted_names : List RecordId → List RecordId
sorted_names [] = []
sorted_names (id ∷ ids) = insert_key id_cmp (sorted_names ids) id

-- these names and those of the parents of records, in ascending order, each once
abbrev pub referred_names : List Record → List RecordId → List RecordId
referred_names records names = sorted_names (map (λ (r : Record). r.parent) records ++ names)

-- what makes a box grey, and says why
abbrev pub ended_mark : Space → List ℕ
ended_mark space =
    codes "style=filled; color=grey; \"end "
    ++ (space_text space ++ codes "\" [label=\"ended\", shape=plain];")

-- the box of a space that has ended
abbrev pub ended_line : Space → List ℕ
ended_line space = boxed space (ended_mark space)

-- the root, in the box of the first space
abbrev pub root_line : State → List ℕ
root_line S = boxed first_space (node_text root (root_label S) Solid)

-- a graph of the root, of records, of names of which none is held, and of spaces that have ended
abbrev pub graph_of : List ℕ → List ℕ → List ℕ → List ℕ → List ℕ
graph_of first records absent ended =
    codes "digraph mapdb {\nrankdir=LR;\nnode [shape=box];\n"
    ++ (first ++ (records ++ (absent ++ (ended ++ codes "}\n"))))

-- the picture of records, of those of their parents' names and of these that are not held, and of
-- spaces that have ended
abbrev pub picture_of : State → List Record → List RecordId → List Space → List ℕ
picture_of S records names spaces =
    graph_of (root_line S) (flat_map (record_lines S) records)
    (flat_map (if_absent S) (referred_names records names)) (flat_map ended_line spaces)

-- the picture of what these operations say together
abbrev pub picture_text : List Op → List ℕ
picture_text ops = picture_of (state_of ops) (records_of ops) (cut_names ops) (ended_of ops)
