use Rattle.std.proofs.Common.{◌+◌, ◌∙◌, ◌++◌, ap, arith, length, List}
use Rattle.std.specs.Prelude.{Some, map, string_bytes}
use Rattle.mapdb_facts.specs.Adding.{cut_at}
use Rattle.mapdb_facts.specs.Facts.{state_of_facts}
use Rattle.mapdb_facts.specs.Runs.{cut_runs}
use Rattle.mapdb_facts.proofs.Maps.CutRuns.{begins_behind, ends_behind}
use Rattle.mapdb_snapshot.specs.Cutting.{cuts_of_runs}
use Rattle.mapdb_snapshot.specs.OpenLists.{closed_with}
use Rattle.mapdb_snapshot.specs.Snapshot.{cut_row}
use Rattle.mapdb_snapshot.proofs.Json.Adding.{run_added}
use Rattle.serde_json.specs.Data.{Data}
use Rattle.mapdb_snapshot.proofs.cutting.push_runs.Goals as goal

pub runs-preserved : goal.runs-preserved
runs-preserved c =
    let S = state_of_facts c.args.facts.now in
    let run = c.in-Some.run' in
    let first = c.in-Some.ensures.first (begins_behind (cut_at S c.args.id) c.runs.page (Some run) c.runs.invariant.apart c.in-Some.ensures.least) in
    let rest = cut_runs S c.args.id (run.first_page + run.page_count) in
    record {
      rows =
          λ rows. c.in_ok-push_run.ensures (map cut_row (cuts_of_runs c.args.id rest) ++ rows)
          ∙ ap (λ (ds : List Data). closed_with (string_bytes c.runs.text) c.runs.later ds)
          (run_added c.args.id run (cut_runs S c.args.id c.runs.page) rest rows first)
          ∙ c.runs.invariant.rows rows;
      apart = ends_behind (cut_at S c.args.id) c.runs.page run c.in-Some.ensures.least;
    }

pub runs-smaller : goal.runs-smaller
runs-smaller c =
    let S = state_of_facts c.args.facts.now in
    let run = c.in-Some.run' in
    let first = c.in-Some.ensures.first (begins_behind (cut_at S c.args.id) c.runs.page (Some run) c.runs.invariant.apart c.in-Some.ensures.least) in
    omega (arith, ap length first)
