-- Rows that are added one behind the other.
use Rattle.std.proofs.Common.{◌≡◌, ℕ, ◌+◌, ◌-◌, ◌<◌, sym, ap, ◌∙◌, List, [], ◌∷◌, ◌++◌, append_assoc}
use Rattle.std.specs.Prelude.{◌^◌, map}
use Rattle.std.proofs.lemmas.List.{map-append}
use Rattle.mapdb_fpage.specs.Bounds.{least_order}
use Rattle.mapdb_fpage.specs.declared.right_sets.Rights.{Rights}
use Rattle.mapdb_facts.specs.declared.names.RecordId.{RecordId}
use Rattle.mapdb_facts.specs.declared.operations.Revocation.{Revocation}
use Rattle.mapdb_facts.specs.declared.runs.CutRun.{CutRun}
use Rattle.mapdb_snapshot.specs.Cutting.{cuts_of_run, cuts_of_runs}
use Rattle.mapdb_snapshot.specs.Snapshot.{cut_row}
use Rattle.mapdb_snapshot.proofs.Places.LargestPlaces.{doublings_of, no_places, places_next}
use Rattle.serde_json.specs.Data.{Data}

abbrev pub run_of : ℕ → ℕ → Rights → CutRun
run_of page count rights = record { first_page = page; page_count = count; rights = rights }

abbrev pub cut_of : RecordId → Rights → ℕ → ℕ → Revocation
cut_of id rights page order = record { target = id; part = record { first_page = page; order = order }; rights = rights }

-- the rows of so many pages from one on
abbrev pub rows_of : RecordId → Rights → ℕ → ℕ → List Data
rows_of id rights page count = map cut_row (cuts_of_run id (run_of page count rights))

-- the rows of a run: that of its first place, and those of the rest
pub run_rows : (id : RecordId) (rights : Rights) (page count doublings size : ℕ) → 0 < count → doublings ≡ doublings_of page count
    → size ≡ 2 ^ doublings
    → rows_of id rights page count ≡ cut_row (cut_of id rights page (least_order + doublings)) ∷ rows_of id rights (page + size) (count - size)
run_rows id rights page count doublings size some most is =
    ap (λ places. map cut_row (map (λ place. record { target = id; part = place; rights = rights }) places)) (places_next page count some)
    ∙ ap (λ n. cut_row (cut_of id rights page (least_order + n)) ∷ rows_of id rights (page + 2 ^ n) (count - 2 ^ n)) (sym most)
    ∙ ap (λ n. cut_row (cut_of id rights page (least_order + doublings)) ∷ rows_of id rights (page + n) (count - n)) (sym is)

pub no_run_rows : (id : RecordId) (rights : Rights) (page count : ℕ) → count ≡ 0 → rows_of id rights page count ≡ []
no_run_rows id rights page count none =
    ap (λ n. rows_of id rights page n) none
    ∙ ap (λ places. map cut_row (map (λ place. record { target = id; part = place; rights = rights }) places)) (no_places page)

-- the rows of a run, and those of the rest
pub run_added : (id : RecordId) (run : CutRun) (runs rest : List CutRun) (rows : List Data) → runs ≡ run ∷ rest
    → map cut_row (cuts_of_run id run) ++ (map cut_row (cuts_of_runs id rest) ++ rows) ≡ map cut_row (cuts_of_runs id runs) ++ rows
run_added id run runs rest rows is =
    sym (append_assoc (map cut_row (cuts_of_run id run)) (map cut_row (cuts_of_runs id rest)) rows)
    ∙ ap (λ (ds : List Data). ds ++ rows) (sym (map-append cut_row (cuts_of_run id run) (cuts_of_runs id rest)))
    ∙ ap (λ (xs : List CutRun). map cut_row (cuts_of_runs id xs) ++ rows) (sym is)
