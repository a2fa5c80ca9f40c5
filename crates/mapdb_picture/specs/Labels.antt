-- What is told of a record: its place and rights, where its pages come from, what it has, and what
-- is revoked of it.
use Rattle.std.specs.Prelude.{ℕ, ◌+◌, ◌-◌, ◌*◌, List, ◌++◌, Option, Some, None, codes, decimal}
use Rattle.std.specs.Prelude.{flat_map}
use Rattle.mapdb_fpage.specs.Bounds.{page_bytes}
use Rattle.mapdb_fpage.specs.Place.{Place}
use Rattle.mapdb_fpage.specs.RightSets.{text_of}
use Rattle.mapdb_fpage.specs.declared.right_sets.Rights.{Rights}
use Rattle.mapdb_facts.specs.Names.{root}
use Rattle.mapdb_facts.specs.Runs.{cut_runs}
use Rattle.mapdb_facts.specs.State.{State}
use Rattle.mapdb_facts.specs.declared.names.RecordId.{RecordId}
use Rattle.mapdb_facts.specs.declared.operations.Record.{Record}
use Rattle.mapdb_facts.specs.declared.runs.CutRun.{CutRun}
use Rattle.mapdb_rights.specs.Frame.{frame_at}
use Rattle.mapdb_rights.specs.Right.{rights_at}
use Rattle.mapdb_lines.specs.Shown.{frame_text, name_text}

-- a place as the script has it: its byte address, a slash, and its order
abbrev pub place_text : Place → List ℕ
place_text place = frame_text (place.first_page * page_bytes) ++ (codes "/" ++ decimal place.order)

-- a place, and the rights that are named for it
abbrev pub named_text : Place → Rights → List ℕ
named_text place rights = place_text place ++ (codes ":" ++ text_of rights)

-- the page of a parent that a page comes from
abbrev pub source_text : RecordId → ℕ → List ℕ
source_text parent page = codes "from " ++ (name_text parent ++ (codes " page " ++ frame_text page))

-- a frame, where one is reached
abbrev pub reached_text : Option ℕ → List ℕ
reached_text None = codes "none"
reached_text (Some frame) = frame_text frame

-- the rights that a record has at a page, and the frame that it reaches there
abbrev pub held_text : State → RecordId → ℕ → List ℕ
held_text S id page = codes "rights "
    ++ (text_of (rights_at S id page) ++ (codes " frame " ++ reached_text (frame_at S id page)))

-- the pages of a run, the first and the last, and the rights that are revoked there
abbrev pub run_text : CutRun → List ℕ
run_text run = codes "revoked "
    ++ (frame_text run.first_page ++ (codes "-"
    ++ (frame_text (run.first_page + run.page_count - 1) ++ (codes " " ++ text_of run.rights))))

-- a further line of a label
abbrev pub label_line : List ℕ → List ℕ
label_line text = codes "\\n" ++ text

-- what is revoked of a record, a line for each run
abbrev pub revoked_line : CutRun → List ℕ
revoked_line run = label_line (run_text run)

abbrev pub revoked_lines : State → RecordId → List ℕ
revoked_lines S id = flat_map revoked_line (cut_runs S id 0)

-- what a record has at a page, and what is revoked of it
abbrev pub held_lines : State → RecordId → ℕ → List ℕ
held_lines S id page = label_line (held_text S id page) ++ revoked_lines S id

-- the label of the root: it names all pages, and has what it has at the first of them
abbrev pub root_label : State → List ℕ
root_label S = name_text root ++ (label_line (codes "all") ++ held_lines S root 0)

-- what a record says: its name, its place with the rights that it names, and the page of its parent
-- that its first page comes from
abbrev pub said_lines : Record → List ℕ
said_lines r =
    name_text r.id ++ (label_line (named_text r.place r.rights)
    ++ label_line (source_text r.parent r.source))

-- the label of a record: what it says, what it has at its first page, and what is revoked of it
abbrev pub record_label : State → Record → List ℕ
record_label S r = said_lines r ++ held_lines S r.id r.place.first_page

-- the label of a record that is not held
abbrev pub absent_label : State → RecordId → List ℕ
absent_label S id = name_text id ++ (label_line (codes "not held") ++ revoked_lines S id)
