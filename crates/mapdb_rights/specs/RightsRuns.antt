-- The runs of pages over which a record has the same rights.
use Rattle.std.specs.Prelude.{◌≡◌, ℕ, ◌-◌, List, [], ◌∷◌, Option, Some, None, map, ◌+◌}
use Rattle.mapdb_fpage.specs.Bounds.{page_limit}
use Rattle.mapdb_fpage.specs.declared.right_sets.Rights.{Rights}
use Rattle.mapdb_facts.specs.Runs.{runs_from}
use Rattle.mapdb_facts.specs.State.{State}
use Rattle.mapdb_facts.specs.declared.names.RecordId.{RecordId}
use Rattle.mapdb_facts.specs.declared.runs.CutRun.{CutRun}
use Rattle.mapdb_rights.specs.Right.{rights_at}
use Rattle.mapdb_rights.specs.declared.index.runs.RightsRun.{RightsRun}

-- the pages of a run, with the rights there
abbrev pub run_of : CutRun → RightsRun
run_of run = record {
  first_page = run.first_page;
  page_count = run.page_count;
  rights = run.rights;
}

-- of rights at pages, the maximal runs from a page on of equal ones, and not none
unfoldable pub runs_behind : (ℕ → Rights) → ℕ → List RightsRun
runs_behind at page = map run_of (runs_from at page (page_limit - page))

-- the first run from a page on, where there is one, and behind it those from its end on
abbrev pub IsFirstRightsRun : (ℕ → Rights) → ℕ → Option RightsRun → Type 0
IsFirstRightsRun at page None = runs_behind at page ≡ []
IsFirstRightsRun at page (Some run) = runs_behind at page
    ≡ run ∷ runs_behind at (run.first_page + run.page_count)

-- the maximal runs of pages over which a record has equal rights, and not none
abbrev pub rights_runs : State → RecordId → List RightsRun
rights_runs S id = runs_behind (rights_at S id) 0
